-- The DMA Remapping Reporting Table (Intel Virtualization Technology for Directed I/O 4.1, 8).
use Rattle.std.specs.Prelude.{ℕ, ◌+◌, List, [], ◌∷◌, ◌++◌, length, codes}
use Rattle.acpi_base.specs.Fields.{NamedField, byte, word, dword, qword, hex, preset, flags, reserved, fields_joined}
use Rattle.acpi_base.specs.Look.{Part, flag}
use Rattle.acpi_base.specs.declared.oem.Oem.{Oem}
use Rattle.acpi_core.specs.Listing.{Listing, length_limit}
use Rattle.acpi_pc.specs.declared.dmar.devices.Andd.{Andd}
use Rattle.acpi_pc.specs.declared.dmar.devices.Rhsa.{Rhsa}
use Rattle.acpi_pc.specs.declared.dmar.scoped.Atsr.{Atsr}
use Rattle.acpi_pc.specs.declared.dmar.scoped.Drhd.{Drhd}
use Rattle.acpi_pc.specs.declared.dmar.scoped.Rmrr.{Rmrr}
use Rattle.acpi_pc.specs.declared.dmar.scoped.Satc.{Satc}
use Rattle.acpi_pc.specs.declared.dmar.scoped.Sidp.{Sidp}

-- Flags of the table (8.1)
abbrev pub dmar_bits : List Part
dmar_bits =
    flag 0x1 "INTR_REMAP"
    ∷ flag 0x2 "X2APIC_OPT_OUT"
    ∷ flag 0x4 "DMA_CTRL_PLATFORM_OPT_IN_FLAG"
    ∷ []

-- the fields between the header and the first structure
abbrev pub dmar_fields : ℕ → ℕ → List NamedField
dmar_fields width set =
    byte "Host Address Width" width  -- 36: one less than the number of bits
    ∷ flags dmar_bits byte "Flags" set  -- 37
    ∷ reserved 10  -- 38
    ∷ []

-- a table without structures
abbrev pub dmar : Oem → ℕ → ℕ → Listing
dmar oem width set = record {
  signature = codes "DMAR";
  revision = 1;
  oem = oem;
  before = fields_joined (dmar_fields width set);
  count_width = 0;
  after = [];
  limit = length_limit;
  structures = [];
}

-- ---- DMA Remapping Hardware Unit Definition (8.3)

abbrev pub drhd : ℕ → ℕ → Drhd
drhd segment base = record { flags = 0; pages = 0; segment = segment; base = base; scopes = [] }

-- Flags
abbrev pub drhd_bits : List Part
drhd_bits =
    flag 0x1 "INCLUDE_PCI_ALL"
    ∷ []

abbrev pub drhd_head_fields : Drhd → List NamedField
drhd_head_fields d =
    preset word "Type" 0  -- 0
    ∷ word "Length" (16 + length d.scopes)  -- 2
    ∷ flags drhd_bits byte "Flags" d.flags  -- 4
    ∷ byte "Size" d.pages  -- 5: 2^N pages of 4 KiB
    ∷ hex word "Segment Number" d.segment  -- 6
    ∷ hex qword "Register Base Address" d.base  -- 8
    ∷ []

abbrev pub drhd_head : Drhd → List ℕ
drhd_head d = fields_joined (drhd_head_fields d)

abbrev pub drhd_bytes : Drhd → List ℕ
drhd_bytes d = drhd_head d ++ d.scopes  -- 16: Device Scope

-- ---- Reserved Memory Region Reporting (8.4)

abbrev pub rmrr : ℕ → ℕ → ℕ → Rmrr
rmrr segment base limit = record { segment = segment; base = base; limit = limit; scopes = [] }

abbrev pub rmrr_head_fields : Rmrr → List NamedField
rmrr_head_fields r =
    preset word "Type" 1  -- 0
    ∷ word "Length" (24 + length r.scopes)  -- 2
    ∷ reserved 2  -- 4
    ∷ hex word "Segment Number" r.segment  -- 6
    ∷ hex qword "Reserved Memory Region Base Address" r.base  -- 8
    ∷ hex qword "Reserved Memory Region Limit Address" r.limit  -- 16
    ∷ []

abbrev pub rmrr_head : Rmrr → List ℕ
rmrr_head r = fields_joined (rmrr_head_fields r)

abbrev pub rmrr_bytes : Rmrr → List ℕ
rmrr_bytes r = rmrr_head r ++ r.scopes  -- 24: Device Scope

-- ---- Root Port ATS Capability Reporting (8.5)

abbrev pub atsr : ℕ → Atsr
atsr segment = record { flags = 0; segment = segment; scopes = [] }

-- Flags
abbrev pub atsr_bits : List Part
atsr_bits =
    flag 0x1 "ALL_PORTS"
    ∷ []

abbrev pub atsr_head_fields : Atsr → List NamedField
atsr_head_fields a =
    preset word "Type" 2  -- 0
    ∷ word "Length" (8 + length a.scopes)  -- 2
    ∷ flags atsr_bits byte "Flags" a.flags  -- 4
    ∷ reserved 1  -- 5
    ∷ hex word "Segment Number" a.segment  -- 6
    ∷ []

abbrev pub atsr_head : Atsr → List ℕ
atsr_head a = fields_joined (atsr_head_fields a)

abbrev pub atsr_bytes : Atsr → List ℕ
atsr_bytes a = atsr_head a ++ a.scopes  -- 8: Device Scope

-- ---- Remapping Hardware Static Affinity (8.6)

abbrev pub rhsa : ℕ → ℕ → Rhsa
rhsa base domain = record { base = base; domain = domain }

abbrev pub rhsa_fields : Rhsa → List NamedField
rhsa_fields r =
    preset word "Type" 3  -- 0
    ∷ preset word "Length" 20  -- 2
    ∷ reserved 4  -- 4
    ∷ hex qword "Register Base Address" r.base  -- 8
    ∷ hex dword "Proximity Domain" r.domain  -- 16
    ∷ []

abbrev pub rhsa_bytes : Rhsa → List ℕ
rhsa_bytes r = fields_joined (rhsa_fields r)

-- ---- ACPI Name-space Device Declaration (8.7)

-- the name has a zero after it
abbrev pub andd : ℕ → List ℕ → Andd
andd number name = record { device_number = number; name = name ++ 0 ∷ [] }

abbrev pub andd_head_fields : Andd → List NamedField
andd_head_fields d =
    preset word "Type" 4  -- 0
    ∷ word "Length" (8 + length d.name)  -- 2
    ∷ reserved 3  -- 4
    ∷ byte "ACPI Device Number" d.device_number  -- 7
    ∷ []

abbrev pub andd_head : Andd → List ℕ
andd_head d = fields_joined (andd_head_fields d)

abbrev pub andd_bytes : Andd → List ℕ
andd_bytes d = andd_head d ++ d.name  -- 8: ACPI Object Name

-- ---- SoC Integrated Address Translation Cache Reporting (8.8)

abbrev pub satc : ℕ → Satc
satc segment = record { flags = 0; segment = segment; scopes = [] }

-- Flags
abbrev pub satc_bits : List Part
satc_bits =
    flag 0x1 "ATC_REQUIRED"
    ∷ []

abbrev pub satc_head_fields : Satc → List NamedField
satc_head_fields s =
    preset word "Type" 5  -- 0
    ∷ word "Length" (8 + length s.scopes)  -- 2
    ∷ flags satc_bits byte "Flags" s.flags  -- 4
    ∷ reserved 1  -- 5
    ∷ hex word "Segment Number" s.segment  -- 6
    ∷ []

abbrev pub satc_head : Satc → List ℕ
satc_head s = fields_joined (satc_head_fields s)

abbrev pub satc_bytes : Satc → List ℕ
satc_bytes s = satc_head s ++ s.scopes  -- 8: Device Scope

-- ---- SoC Integrated Device Property Reporting (8.9)

abbrev pub sidp : ℕ → Sidp
sidp segment = record { segment = segment; scopes = [] }

abbrev pub sidp_head_fields : Sidp → List NamedField
sidp_head_fields s =
    preset word "Type" 6  -- 0
    ∷ word "Length" (8 + length s.scopes)  -- 2
    ∷ reserved 2  -- 4
    ∷ hex word "Segment Number" s.segment  -- 6
    ∷ []

abbrev pub sidp_head : Sidp → List ℕ
sidp_head s = fields_joined (sidp_head_fields s)

abbrev pub sidp_bytes : Sidp → List ℕ
sidp_bytes s = sidp_head s ++ s.scopes  -- 8: Device Scope
