-- Objects made in a vector.
use Rattle.std.specs.Prelude.{ℕ, Vec, Result, Ok, Err}
use Rattle.std.specs.declared.alloc.Global.{Global}
use Rattle.acpi_base.specs.declared.error.Error.{Error}
use Rattle.acpi_base.specs.Object.{Object, Built, IsOwnEnd}

-- The result is a vector of the object's bytes if it has no error, and its error otherwise. Or memory ran out.
abbrev pub Makes : Result (Vec ℕ Global) Error → Object → Type 0
Makes (Ok made) object = Built object made.items
Makes (Err e) object = IsOwnEnd e object
