-- The bytes of the FADT's registers.
use Rattle.std.proofs.Common.{ℕ, List, [], ◌∷◌}
use Rattle.std.specs.Prelude.{◌==◌, if◌then◌else◌}
use Rattle.acpi_base.specs.Fields.{NamedField}

-- the fields, with the bytes of each register, which is 12 bytes wide, as they were made beforehand
abbrev pub registered : List NamedField → List (List ℕ) → List NamedField
registered [] registers = []
registered (field ∷ fields) [] = field ∷ fields
registered (field ∷ fields) (register ∷ registers) =
    (if field.width == 12 then record field { bytes = register } else field)
    ∷ registered fields (if field.width == 12 then registers else register ∷ registers)
