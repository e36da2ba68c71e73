-- Resource descriptors of vendors (ACPI 6.5, 6.4.2.8 and 6.4.3.2). Each line has a field with its name in the standard.
use Rattle.std.specs.Prelude.{ℕ, ◌+◌, nat_le, List, [], ◌∷◌, length}
use Rattle.acpi_base.specs.declared.error.Error.TheVariants.{FieldWidth}
use Rattle.acpi_base.specs.Fields.{NamedField, byte, word, preset, bytes, fields_joined}
use Rattle.acpi_base.specs.Object.{Object, whole, provided}

-- Vendor-Defined Descriptor, Type 0 (6.4.2.8). The low three bits of its tag are the number of the vendor's bytes.
abbrev pub vendor_short_fields : List ℕ → List NamedField
vendor_short_fields content =
    byte "Vendor-Defined Descriptor" (0x70 + length content)  -- 0
    ∷ bytes "Vendor Defined" (length content) content  -- 1
    ∷ []

-- at most 7 bytes
abbrev pub vendor_short : List ℕ → Object
vendor_short content = provided (nat_le (length content) 7) FieldWidth (whole (fields_joined (vendor_short_fields content)))

-- Vendor-Defined Descriptor, Type 1 (6.4.3.2)
abbrev pub vendor_long_fields : List ℕ → List NamedField
vendor_long_fields content =
    preset byte "Vendor-Defined Descriptor" 0x84  -- 0
    ∷ word "Length" (length content)  -- 1
    ∷ bytes "Vendor Defined" (length content) content  -- 3
    ∷ []

-- at most 65,535 bytes
abbrev pub vendor_long : List ℕ → Object
vendor_long content = provided (nat_le (length content) 65535) FieldWidth (whole (fields_joined (vendor_long_fields content)))
