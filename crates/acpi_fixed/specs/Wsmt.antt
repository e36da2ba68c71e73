-- The Windows SMM Security Mitigations Table (Microsoft, WSMT 1.0).
use Rattle.std.specs.Prelude.{ℕ, List, [], ◌∷◌, codes, bit_or}
use Rattle.acpi_base.specs.Fields.{NamedField, dword, flags, fields_joined}
use Rattle.acpi_base.specs.Look.{Part, flag}
use Rattle.acpi_base.specs.Table.{table_of}
use Rattle.acpi_base.specs.declared.oem.Oem.{Oem}
use Rattle.acpi_fixed.specs.declared.wsmt.WSMT.{WSMT}

-- Protection Flags
abbrev pub protection_bits : List Part
protection_bits =
    flag 0x1 "FIXED_COMM_BUFFERS"
    ∷ flag 0x2 "COMM_BUFFER_NESTED_PTR_PROTECTION"
    ∷ flag 0x4 "SYSTEM_RESOURCE_PROTECTION"
    ∷ []

-- the fields after the header
abbrev pub wsmt_fields : WSMT → List NamedField
wsmt_fields t =
    flags protection_bits dword "Protection Flags" t.flags  -- 36
    ∷ []

abbrev pub wsmt_bytes : WSMT → List ℕ
wsmt_bytes t = table_of (codes "WSMT") 1 t.oem (fields_joined (wsmt_fields t))

-- a table without flags
abbrev pub wsmt_for : Oem → WSMT
wsmt_for oem = record { oem = oem; flags = 0 }

abbrev pub with_protection : ℕ → WSMT → WSMT
with_protection flag t = record t { flags = bit_or t.flags flag }
