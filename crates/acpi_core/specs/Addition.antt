-- Adding a structure to a table.
use Rattle.std.specs.Prelude.{◌≡◌, ◌≢◌, ℕ, ◌+◌, ◌*◌, Bool, length, if◌then◌else◌, Option, Some, None, Result, OnOk, OnErr, IfOk}
use Rattle.std.specs.Prelude.{IfErr}
use Rattle.acpi_base.specs.declared.error.Error.{Error}
use Rattle.acpi_base.specs.declared.error.Error.TheVariants.{Memory, FieldWidth}
use Rattle.acpi_base.specs.Object.{Object}
use Rattle.acpi_core.specs.Listing.{Listing, size_of, with_structure}
use Rattle.acpi_core.specs.Flat.{has_space}

-- a table, and how many bytes were summed for it
pub record Counted : Type 0 where
  pub table : Listing
  pub summed : ℕ

-- whether the length and the number of structures fit their fields after a structure of this many bytes
abbrev pub has_room : Listing → ℕ → Bool
has_room t n = has_space (size_of t) n t.limit (length t.structures) t.count_width

-- the error of an addition: the structure's own, or `FieldWidth` if there is no room for it
abbrev pub refusal_of : Listing → Option Error → ℕ → Option Error
refusal_of t (Some e) n = Some e
refusal_of t None n = if has_room t n then None else Some FieldWidth

-- How many bytes are summed when a structure is added: its own, the four of the old length and of the new one, and the bytes of
-- the old number of structures and of the new one.
abbrev pub addition_cost : Listing → ℕ → ℕ
addition_cost t n = n + (8 + 2 * t.count_width)

-- The table has one more structure, or the call failed and the table is unchanged.
pub record Adds {T : Type 0} (result : Result T Error) (old : Counted) (structure : Object) (new : Counted) : Type 0 where
  pub ok : OnOk result (new.table ≡ with_structure old.table structure.front)
  pub accepted : OnOk result (refusal_of old.table structure.end (length structure.front) ≡ None)
  pub err : OnErr result (new ≡ old)
  pub cause : IfErr result (λ e. e ≢ Memory → refusal_of old.table structure.end (length structure.front) ≡ Some e)
  pub cost : OnOk result (new.summed ≡ old.summed + addition_cost old.table (length structure.front))

-- The same, and the result is the offset at which the structure begins.
pub record AddsAt (result : Result ℕ Error) (old : Counted) (structure : Object) (new : Counted) : Type 0 where
  pub adds : Adds result old structure new
  pub offset : IfOk result (λ at. at ≡ size_of old.table)
