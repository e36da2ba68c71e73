-- Structures that contain their length in two bytes.
use Rattle.std.specs.Prelude.{◌≢◌, ℕ, ◌^◌, nat_lt, Bool, List, length, Some}
use Rattle.acpi_base.specs.declared.error.Error.TheVariants.{Memory, FieldWidth}
use Rattle.acpi_base.specs.Object.{Object, whole, provided, provided_ends_well}

-- whether the number of these bytes fits the two bytes
abbrev pub fits_word : List ℕ → Bool
fits_word bytes = nat_lt (length bytes) (2 ^ 16)

-- a structure, or `FieldWidth` if its length doesn't fit its field
abbrev pub structure_of : List ℕ → Object
structure_of bytes = provided (fits_word bytes) FieldWidth (whole bytes)

pub structure_ends_well : (bytes : List ℕ) → (structure_of bytes).end ≢ Some Memory
structure_ends_well bytes = provided_ends_well (fits_word bytes) FieldWidth bytes (λ is. cc)
