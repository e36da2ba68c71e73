-- Several interrupts in one descriptor (ACPI 6.5, 6.4.3.6). Each line has a field with its name in the standard.
use Rattle.std.specs.Prelude.{ℕ, ◌+◌, ◌*◌, nat_le, ◌&&◌, Bool, List, [], ◌∷◌, ◌++◌, length}
use Rattle.std.specs.List.{flat_map}
use Rattle.acpi_base.specs.declared.error.Error.TheVariants.{FieldWidth}
use Rattle.acpi_base.specs.Bytes.{le}
use Rattle.acpi_base.specs.Fields.{NamedField, byte, word, preset, flags, fields_joined}
use Rattle.acpi_base.specs.Object.{Object, whole, provided}
use Rattle.acpi_ops.specs.Descriptor.{vector_bits, vector_flags}
use Rattle.acpi_ops.specs.Parts.{source_bytes, source_size}
use Rattle.acpi_ops.specs.declared.descriptor.InterruptFlags.{InterruptFlags}

-- Extended Interrupt Descriptor (6.4.3.6) of this many interrupts, before their numbers
abbrev pub interrupts_head_fields : ℕ → ℕ → List NamedField
interrupts_head_fields vector_flags count =
    preset byte "Extended Interrupt Descriptor" 0x89  -- 0
    ∷ word "Length" (2 + 4 * count)  -- 1
    ∷ flags vector_bits byte "Interrupt Vector Flags" vector_flags  -- 3
    ∷ byte "Interrupt Table Length" count  -- 4
    ∷ []

-- the numbers in order, four bytes each, from offset 5 on
abbrev pub numbers_bytes : List ℕ → List ℕ
numbers_bytes numbers = flat_map (λ number. le 4 number) numbers

abbrev pub interrupts_bytes : ℕ → List ℕ → List ℕ
interrupts_bytes flags numbers = fields_joined (interrupts_head_fields flags (length numbers)) ++ numbers_bytes numbers

-- from 1 to 255 interrupts
abbrev pub interrupts : InterruptFlags → List ℕ → Object
interrupts flags numbers =
    provided (nat_le 1 (length numbers) && nat_le (length numbers) 255) FieldWidth
    (whole (interrupts_bytes (vector_flags flags) numbers))

-- ---- interrupts of a resource source

-- the value of Length
abbrev pub from_length : ℕ → ℕ → ℕ
from_length count source = 2 + 4 * count + source_size source

-- the same before their numbers, with a source of this many bytes
abbrev pub from_head_fields : ℕ → ℕ → ℕ → List NamedField
from_head_fields vector_flags count source =
    preset byte "Extended Interrupt Descriptor" 0x89  -- 0
    ∷ word "Length" (from_length count source)  -- 1
    ∷ flags vector_bits byte "Interrupt Vector Flags" vector_flags  -- 3
    ∷ byte "Interrupt Table Length" count  -- 4
    ∷ []

-- The source's index and name follow the numbers.
abbrev pub from_bytes : ℕ → List ℕ → ℕ → List ℕ → List ℕ
from_bytes flags numbers index source =
    fields_joined (from_head_fields flags (length numbers) (length source))
    ++ (numbers_bytes numbers ++ source_bytes index source)

-- from 1 to 255 interrupts, and a length that fits its field
abbrev pub from_fits : ℕ → ℕ → Bool
from_fits count source = nat_le 1 count && nat_le count 255 && nat_le (from_length count source) 65535

abbrev pub interrupts_from : InterruptFlags → List ℕ → ℕ → List ℕ → Object
interrupts_from flags numbers index source =
    provided (from_fits (length numbers) (length source)) FieldWidth
    (whole (from_bytes (vector_flags flags) numbers index source))
