-- Tables that are written field by field.
use Rattle.std.specs.Prelude.{ℕ, List, if◌then◌else◌, Result, Ok, Err}
use Rattle.acpi_base.specs.declared.error.Error.{Error}
use Rattle.acpi_base.specs.declared.error.Error.TheVariants.{FieldWidth}
use Rattle.acpi_base.specs.Sdt.{Contents, added, fits}

-- the bytes of a table, or the first error
abbrev pub Built : Type 0
Built = Result (List ℕ) Error

-- a table with further bytes, its length and its checksum
abbrev pub with_bytes : List ℕ → List ℕ → Built
with_bytes bytes table = if fits table bytes then Ok (added table bytes) else Err FieldWidth

-- ---- the code's values

abbrev pub built : Result Contents Error → Built
built (Ok table) = Ok table.bytes
built (Err e) = Err e
