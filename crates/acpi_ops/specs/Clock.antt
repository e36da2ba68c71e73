-- Clock inputs (ACPI 6.5, 6.4.3.14). Each line has a field with its name in the standard, and its offset.
use Rattle.std.specs.Prelude.{ℕ, ◌+◌, ◌*◌, nat_le, List, [], ◌∷◌, ◌++◌, length}
use Rattle.acpi_base.specs.declared.error.Error.TheVariants.{FieldWidth}
use Rattle.acpi_base.specs.Fields.{NamedField, byte, word, dword, preset, flags, fields_joined}
use Rattle.acpi_base.specs.Look.{Part, choice, means}
use Rattle.acpi_base.specs.Object.{Object, whole, provided}
use Rattle.acpi_ops.specs.Descriptor.{bit}
use Rattle.acpi_ops.specs.Parts.{source_bytes, source_size}
use Rattle.acpi_ops.specs.declared.clock.ClockScale.{ClockScale}
use Rattle.acpi_ops.specs.declared.clock.ClockScale.TheVariants as scales
use Rattle.acpi_ops.specs.declared.clock.ClockSettings.{ClockSettings}

-- Scale, at bit 1
abbrev pub scale_number : ClockScale → ℕ
scale_number scales.Hertz = 0
scale_number scales.Kilohertz = 1
scale_number scales.Megahertz = 2

-- Flags: Mode and Scale
abbrev pub clock_flags : ClockSettings → ℕ
clock_flags c = bit c.variable 0x1 + 2 * scale_number c.scale

abbrev pub clock_bits : List Part
clock_bits =
    choice 0x1 (means 0x0 "Fixed" ∷ means 0x1 "Variable" ∷ [])
    ∷ choice 0x6 (means 0x0 "Hz" ∷ means 0x2 "kHz" ∷ means 0x4 "MHz" ∷ [])
    ∷ []

-- Clock Input Descriptor, with this many bytes after it
abbrev pub clock_fields : ClockSettings → ℕ → List NamedField
clock_fields c more =
    preset byte "Clock Input Descriptor" 0x93  -- 0
    ∷ word "Length" (9 + more)  -- 1
    ∷ preset byte "Revision ID" 1  -- 3
    ∷ flags clock_bits word "Flags" (clock_flags c)  -- 4
    ∷ word "Frequency Divisor" c.divisor  -- 6
    ∷ dword "Frequency Numerator" c.numerator  -- 8
    ∷ []

abbrev pub clock_bytes : ClockSettings → List ℕ
clock_bytes c = fields_joined (clock_fields c 0)

-- with a resource source, from offset 12 on
abbrev pub clock_from_bytes : ClockSettings → ℕ → List ℕ → List ℕ
clock_from_bytes c index source = fields_joined (clock_fields c (source_size (length source))) ++ source_bytes index source

abbrev pub clock_from : ClockSettings → ℕ → List ℕ → Object
clock_from c index source =
    provided (nat_le (9 + source_size (length source)) 65535) FieldWidth (whole (clock_from_bytes c index source))
