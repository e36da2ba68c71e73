-- The Windows ACPI Emulated Devices Table (Microsoft, WAET 1.2).
use Rattle.std.specs.Prelude.{ℕ, List, [], ◌∷◌, codes, bit_or}
use Rattle.acpi_base.specs.Fields.{NamedField, dword, flags, fields_joined}
use Rattle.acpi_base.specs.Look.{Part, flag}
use Rattle.acpi_base.specs.Table.{table_of}
use Rattle.acpi_base.specs.declared.oem.Oem.{Oem}
use Rattle.acpi_fixed.specs.declared.waet.WAET.{WAET}

-- Emulated Device Flags
abbrev pub device_bits : List Part
device_bits =
    flag 0x1 "RTC good"
    ∷ flag 0x2 "ACPI PM timer good"
    ∷ []

-- the fields after the header
abbrev pub waet_fields : WAET → List NamedField
waet_fields t =
    flags device_bits dword "Emulated Device Flags" t.flags  -- 36
    ∷ []

abbrev pub waet_bytes : WAET → List ℕ
waet_bytes t = table_of (codes "WAET") 1 t.oem (fields_joined (waet_fields t))

-- a table without flags
abbrev pub waet_for : Oem → WAET
waet_for oem = record { oem = oem; flags = 0 }

abbrev pub with_device : ℕ → WAET → WAET
with_device flag t = record t { flags = bit_or t.flags flag }
