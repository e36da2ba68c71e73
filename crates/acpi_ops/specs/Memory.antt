-- Ranges of memory whose base may be chosen (ACPI 6.5, 6.4.3.1 and 6.4.3.3). Each line has a field with its name in the standard.
use Rattle.std.specs.Prelude.{ℕ, Bool, List, [], ◌∷◌}
use Rattle.acpi_base.specs.Fields.{NamedField, byte, word, dword, hex, preset, flags, fields_joined}
use Rattle.acpi_ops.specs.Descriptor.{bit, write_bits}

-- 24-Bit Memory Range Descriptor (6.4.3.1)
abbrev pub memory_24_fields : Bool → ℕ → ℕ → ℕ → ℕ → List NamedField
memory_24_fields read_write min max alignment size =
    preset byte "24-Bit Memory Range Descriptor" 0x81  -- 0
    ∷ preset word "Length" 9  -- 1
    ∷ flags write_bits byte "Information" (bit read_write 1)  -- 3: Write Status
    ∷ hex word "Range Minimum Base Address" min  -- 4: its bits 8 to 23
    ∷ hex word "Range Maximum Base Address" max  -- 6: its bits 8 to 23
    ∷ word "Base Alignment" alignment  -- 8
    ∷ word "Range Length" size  -- 10: in blocks of 256 bytes
    ∷ []

abbrev pub memory_24_bytes : Bool → ℕ → ℕ → ℕ → ℕ → List ℕ
memory_24_bytes read_write min max alignment size = fields_joined (memory_24_fields read_write min max alignment size)

-- 32-Bit Memory Range Descriptor (6.4.3.3)
abbrev pub memory_32_fields : Bool → ℕ → ℕ → ℕ → ℕ → List NamedField
memory_32_fields read_write min max alignment size =
    preset byte "32-Bit Memory Range Descriptor" 0x85  -- 0
    ∷ preset word "Length" 17  -- 1
    ∷ flags write_bits byte "Information" (bit read_write 1)  -- 3: Write Status
    ∷ hex dword "Range Minimum Base Address" min  -- 4
    ∷ hex dword "Range Maximum Base Address" max  -- 8
    ∷ dword "Base Alignment" alignment  -- 12
    ∷ dword "Range Length" size  -- 16
    ∷ []

abbrev pub memory_32_bytes : Bool → ℕ → ℕ → ℕ → ℕ → List ℕ
memory_32_bytes read_write min max alignment size = fields_joined (memory_32_fields read_write min max alignment size)
