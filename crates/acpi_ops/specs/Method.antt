-- Methods with a synchronization level (ACPI 6.5, 20.2.5.2).
use Rattle.std.specs.Prelude.{ℕ, nat_le, Bool, List}
use Rattle.acpi_base.specs.declared.error.Error.TheVariants.{FieldWidth}
use Rattle.acpi_base.specs.Object.{Object, provided}
use Rattle.acpi_term.specs.Tree.{def_leveled_method}
use Rattle.acpi_term.specs.Row.{row}

-- a method whose level fits four bits
abbrev pub leveled_method : List ℕ → ℕ → Bool → ℕ → List Object → Object
leveled_method path args serialized level objects =
    provided (nat_le level 15) FieldWidth (row (def_leveled_method path args serialized level) objects)
