-- The Root System Description Pointer (ACPI 6.5, 5.2.5.3).
use Rattle.std.specs.Prelude.{ℕ, List, [], ◌∷◌, codes, take, sum}
use Rattle.acpi_base.specs.Bytes.{complement}
use Rattle.acpi_base.specs.Fields.{NamedField, byte, dword, qword, hex, text, reserved, fields_joined}
use Rattle.acpi_fixed.specs.declared.rsdp.Rsdp.{Rsdp}
use Rattle.acpi_fixed.specs.declared.rsdp.Rsdp0.{Rsdp0}

abbrev pub rsdp_fields : Rsdp → List NamedField
rsdp_fields r =
    text "Signature" 8 r.signature  -- 0
    ∷ hex byte "Checksum" r.checksum  -- 8
    ∷ text "OEMID" 6 r.oem_id  -- 9
    ∷ byte "Revision" r.revision  -- 15
    ∷ hex dword "RsdtAddress" 0  -- 16
    ∷ dword "Length" r.length  -- 20
    ∷ hex qword "XsdtAddress" r.xsdt_addr  -- 24
    ∷ hex byte "Extended Checksum" r.extended_checksum  -- 32
    ∷ reserved 3  -- 33
    ∷ []

abbrev pub rsdp_bytes : Rsdp → List ℕ
rsdp_bytes r = fields_joined (rsdp_fields r)

-- the pointer with checksums of zero
abbrev pub unsummed : List ℕ → ℕ → Rsdp
unsummed oem_id xsdt_addr = record {
  signature = codes "RSD PTR ";
  checksum = 0;
  oem_id = oem_id;
  revision = 2;
  length = 36;
  xsdt_addr = xsdt_addr;
  extended_checksum = 0;
}

-- the first checksum is that of 20 bytes, and the extended one that of all bytes
abbrev pub with_first : Rsdp → Rsdp
with_first r = record r { checksum = complement (sum (take 20 (rsdp_bytes r))) }

abbrev pub with_both : Rsdp → Rsdp
with_both r = record r { extended_checksum = complement (sum (rsdp_bytes r)) }

abbrev pub rsdp_for : List ℕ → ℕ → Rsdp
rsdp_for oem_id xsdt_addr = with_both (with_first (unsummed oem_id xsdt_addr))

-- ---- revision 0: the fields up to the address of an RSDT

abbrev pub rsdp0_fields : Rsdp0 → List NamedField
rsdp0_fields r =
    text "Signature" 8 (codes "RSD PTR ")  -- 0
    ∷ hex byte "Checksum" r.checksum  -- 8
    ∷ text "OEMID" 6 r.oem_id  -- 9
    ∷ byte "Revision" 0  -- 15
    ∷ hex dword "RsdtAddress" r.rsdt_addr  -- 16
    ∷ []

abbrev pub rsdp0_bytes : Rsdp0 → List ℕ
rsdp0_bytes r = fields_joined (rsdp0_fields r)

-- the pointer with a checksum of zero
abbrev pub unsummed0 : List ℕ → ℕ → Rsdp0
unsummed0 oem_id rsdt_addr = record { oem_id = oem_id; checksum = 0; rsdt_addr = rsdt_addr }

-- the checksum is that of all bytes
abbrev pub rsdp0_for : List ℕ → ℕ → Rsdp0
rsdp0_for oem_id rsdt_addr =
    record (unsummed0 oem_id rsdt_addr) { checksum = complement (sum (rsdp0_bytes (unsummed0 oem_id rsdt_addr))) }
