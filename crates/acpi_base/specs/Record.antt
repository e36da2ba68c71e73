-- Records: fields of known widths, one after another.
use Rattle.std.specs.Prelude.{ℕ, List, [], ◌∷◌, ◌++◌}
use Rattle.acpi_base.specs.declared.record.Field.{Field}
use Rattle.acpi_base.specs.declared.record.Field.TheVariants.{Byte, Word, DWord, QWord, Bytes}
use Rattle.acpi_base.specs.Bytes.{le}

-- a number in its width, lowest byte first, or bytes in their order
abbrev pub field_bytes : Field → List ℕ
field_bytes (Byte value) = value ∷ []
field_bytes (Word value) = le 2 value
field_bytes (DWord value) = le 4 value
field_bytes (QWord value) = le 8 value
field_bytes (Bytes value) = value.now

abbrev pub fields_bytes : List Field → List ℕ
fields_bytes [] = []
fields_bytes (field ∷ fields) = field_bytes field ++ fields_bytes fields
