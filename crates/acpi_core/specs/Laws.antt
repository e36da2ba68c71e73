-- Laws about tables of structures, which hold for all calls.
use Rattle.std.specs.Prelude.{◌≡◌, ℕ, ◌<◌, ◌≤◌, Bool, List, ◌++◌, length, drop, None, Result, IfOk}
use Rattle.acpi_base.specs.declared.error.Error.{Error}
use Rattle.acpi_base.specs.Object.{Object}
use Rattle.acpi_base.specs.Table.{IsTrueTable}
use Rattle.acpi_base.specs.Walk.{Walks, ArePieces, HasSizes}
use Rattle.acpi_base.specs.declared.walk.Walk.{Walk}
use Rattle.acpi_core.specs.Listing.{Listing, IsListing, bytes_of, size_of, with_structure}
use Rattle.acpi_core.specs.Addition.{Counted, Adds, AddsAt, refusal_of}
use Rattle.acpi_core.specs.Offset.{structure_at, offset_of, IsLater, KeepsStructures, StandsAt}
use Rattle.acpi_core.specs.Walk.{IsWalkOf}

-- A table's length at offset 4 is the number of its bytes, which sum to zero.
abbrev pub ListingsAreTrue : Type 0
ListingsAreTrue = (t : Listing) → IsListing t → IsTrueTable (bytes_of t) × (length (bytes_of t) ≡ size_of t)

-- This still holds after a structure was added.
abbrev pub ListingsGrow : Type 0
ListingsGrow = (t : Listing) (structure : List ℕ) → IsListing t → refusal_of t None (length structure) ≡ None
    → IsListing (with_structure t structure)

-- The bytes of a structure stand at its offset.
abbrev pub StructuresStandAtOffsets : Type 0
StructuresStandAtOffsets =
    (t : Listing) (i : ℕ) → IsListing t → i < length t.structures
    → (rest : List ℕ) × (drop (offset_of t i) (bytes_of t) ≡ structure_at t i ++ rest)

-- A new structure begins where the table ended.
abbrev pub StructuresAreAddedAtTheEnd : Type 0
StructuresAreAddedAtTheEnd =
    (t : Listing) (structure : List ℕ)
    → (offset_of (with_structure t structure) (length t.structures) ≡ size_of t)
    × (structure_at (with_structure t structure) (length t.structures) ≡ structure) × IsLater t (with_structure t structure)

-- Structures keep their offsets and bytes when others are added.
abbrev pub StructuresStay : Type 0
StructuresStay = (old new : Listing) → IsLater old new → KeepsStructures old new

-- The structures, in order, are the one list that the walk finds, at their offsets.
abbrev pub StructuresAreTheWalk : Type 0
StructuresAreTheWalk =
    (t : Listing) (ported : Bool) (w : Walk) → IsListing t → IsWalkOf ported w t → HasSizes w.sizes
    → ArePieces w.sizes t.structures
    → Walks w (bytes_of t) t.structures × ((pieces : List (List ℕ)) → Walks w (bytes_of t) pieces → pieces ≡ t.structures)

-- No two structures that have bytes have the same offset.
abbrev pub OffsetsDiffer : Type 0
OffsetsDiffer =
    (t : Listing) (w : Walk) (i j : ℕ) → HasSizes w.sizes → ArePieces w.sizes t.structures → i < j → j < length t.structures
    → offset_of t i < offset_of t j

-- ---- handles

-- An addition makes a later table, whether it succeeds or fails. A table that is later than a later table is later.
pub record AdditionsAreLater : Type 0 where
  pub one : (result : Result Unit Error) (old new : Counted) (o : Object) → Adds result old o new → IsLater old.table new.table
  pub answered : (result : Result ℕ Error) (old new : Counted) (o : Object) → AddsAt result old o new
      → IsLater old.table new.table
  pub more : (a b c : Listing) → IsLater a b → IsLater b c → IsLater a c

-- A handle is the offset of its structure, in this table and in every later one.
pub record HandlesStand : Type 0 where
  pub now : (result : Result ℕ Error) (old new : Counted) (o : Object) → AddsAt result old o new
      → IfOk result (λ at. StandsAt new.table at o.front)
  pub later : (old new : Listing) (at : ℕ) (structure : List ℕ) → IsLater old new → StandsAt old at structure
      → StandsAt new at structure

-- A new handle differs from all earlier ones: it is after every structure that has bytes.
abbrev pub HandlesDiffer : Type 0
HandlesDiffer =
    (result : Result ℕ Error) (old new : Counted) (o : Object) (at : ℕ) (structure : List ℕ)
    → AddsAt result old o new → StandsAt old.table at structure → 1 ≤ length structure → IfOk result (λ next. at < next)
