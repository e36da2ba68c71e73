-- The pieces of a table, and the errors of finding them.
use Rattle.std.specs.Prelude.{◌≡◌, ℕ, ◌≤◌, ◌==◌, nat_le, if◌then◌else◌, List, [], ◌++◌, length, drop, take, Option, Some, None}
use Rattle.std.specs.List.{concat}
use Rattle.acpi_base.specs.Bytes.{field_at}
use Rattle.acpi_base.specs.Walk.{find_size, rows_of, place_offset, place_width, end_of, number_in, IsPiece, ArePieces}
use Rattle.acpi_base.specs.Walk.{offsets_from, walk_of, Walks, WalksBy}
use Rattle.acpi_base.specs.FurtherWalk.{begin_of, full_walk_of, further_walk_of, table_walk_of, AreStructuresOf, FollowsBy}
use Rattle.acpi_base.specs.declared.further_walk.FurtherWalk.{FurtherWalk}
use Rattle.acpi_base.specs.declared.walk.Place.{Place}
use Rattle.acpi_base.specs.declared.walk.Place.TheVariants.{Nowhere}
use Rattle.acpi_base.specs.declared.walk.Sizes.{Sizes}
use Rattle.acpi_base.specs.declared.walk.Sizes.TheVariants.{ByType}
use Rattle.acpi_base.specs.declared.walk.Walk.{Walk}
use Rattle.acpi_term.specs.declared.read_error.ReadError.{ReadError}
use Rattle.acpi_term.specs.declared.read_error.ReadError.TheVariants as errors

-- ---- errors

-- an error of finding pieces
pub data Refusal : Type 0 where
  no_memory : Refusal
  bad_structure : ℕ → Refusal
  bad_count : ℕ → Refusal
  unknown_source : ℕ → Refusal
  another : Refusal

abbrev pub refusal_of : ReadError → Refusal
refusal_of errors.Memory = no_memory
refusal_of (errors.Structure offset) = bad_structure offset
refusal_of (errors.Count offset) = bad_count offset
refusal_of (errors.UnknownSource offset) = unknown_source offset
refusal_of _ = another

-- ---- the first piece

-- a piece of this many bytes is at the front
pub record IsFront (s : Sizes) (n : ℕ) (rest : List ℕ) : Type 0 where
  pub fits : n ≤ length rest
  pub piece : IsPiece s (take n rest)

-- no piece is at the front
abbrev pub NoFront : Sizes → List ℕ → Type 0
NoFront s rest = (p q : List ℕ) → p ++ q ≡ rest → IsPiece s p → ⊥

-- a structure whose type decides its length, and whose type isn't known
abbrev pub IsUnknownSource : Sizes → List ℕ → Type 0
IsUnknownSource (ByType kind types) rest = (end_of kind ≤ length rest) × (find_size (number_in kind rest) (rows_of types) ≡ None)
IsUnknownSource _ rest = ⊥

-- why no piece is at the front of bytes that stand at an offset
abbrev pub IsFrontFault : Refusal → Sizes → ℕ → List ℕ → Type 0
IsFrontFault (bad_structure offset) s at rest = (offset ≡ at) × NoFront s rest
IsFrontFault (unknown_source offset) s at rest = (offset ≡ at) × NoFront s rest × IsUnknownSource s rest
IsFrontFault _ s at rest = ⊥

-- ---- all pieces

-- the bytes from a start on are these pieces, at these offsets
pub record AreCut (s : Sizes) (start : ℕ) (bytes : List ℕ) (pieces : List (List ℕ)) (offsets : List ℕ) : Type 0 where
  pub joined : drop start bytes ≡ concat pieces
  pub each : ArePieces s pieces
  pub places : offsets ≡ offsets_from start pieces

abbrev pub NoCut : Sizes → List ℕ → Type 0
NoCut s body = (pieces : List (List ℕ)) → ArePieces s pieces → concat pieces ≡ body → ⊥

-- why the bytes from a start on can't be cut into pieces, unless memory ran out
abbrev pub IsCutFault : Refusal → Sizes → ℕ → List ℕ → Type 0
IsCutFault no_memory s start bytes = Unit {0}
IsCutFault (bad_structure offset) s start bytes = (offset ≤ length bytes) × NoCut s (drop start bytes)
IsCutFault (unknown_source offset) s start bytes = (offset ≤ length bytes) × NoCut s (drop start bytes)
    × IsUnknownSource s (drop offset bytes)
IsCutFault _ s start bytes = ⊥

-- ---- the pieces of a table

-- the offsets of the pieces of a walk
abbrev pub offsets_by : Option Walk → List (List ℕ) → List ℕ
offsets_by (Some w) pieces = offsets_from w.start pieces
offsets_by None pieces = []

abbrev pub offsets_of : List ℕ → List (List ℕ) → List ℕ
offsets_of bytes pieces = offsets_by (walk_of (field_at 0 4 bytes)) pieces

-- the bytes have no pieces by this walk
abbrev pub NoPiecesBy : Option Walk → List ℕ → Type 0
NoPiecesBy w bytes = (pieces : List (List ℕ)) → WalksBy w bytes pieces → ⊥

abbrev pub NoWalk : Walk → List ℕ → Type 0
NoWalk w bytes = (pieces : List (List ℕ)) → Walks w bytes pieces → ⊥

abbrev pub NoneFollow : FurtherWalk → List ℕ → Type 0
NoneFollow f bytes = (pieces : List (List ℕ)) → FollowsBy (Some f) bytes pieces → ⊥

-- Why a table has no structures by a walk, unless memory ran out. `No` says that it has none. A wrong number has the offset
-- of its field. An unknown source is an error only if the table has one, and its structures have the size of their type.
abbrev pub IsFaultBy : Refusal → Option Walk → List ℕ → Type 0 → Type 0
IsFaultBy no_memory w bytes No = Unit {0}
IsFaultBy (bad_structure offset) w bytes No = (offset ≤ length bytes) × No
IsFaultBy (bad_count offset) (Some w) bytes No = (offset ≡ place_offset w.count) × (offset ≤ length bytes) × No
IsFaultBy (unknown_source offset) (Some w) bytes No = (offset ≤ length bytes) × No × IsUnknownSource w.sizes (drop offset bytes)
IsFaultBy _ w bytes No = ⊥

abbrev pub IsPieceFault : ReadError → List ℕ → Type 0
IsPieceFault e bytes =
    IsFaultBy (refusal_of e) (walk_of (field_at 0 4 bytes)) bytes (NoPiecesBy (walk_of (field_at 0 4 bytes)) bytes)

-- ---- the structures of a table, of the Rust crate or a further one

-- the offset of the first structure
abbrev pub first_in : Option Walk → Option FurtherWalk → List ℕ → ℕ
first_in (Some w) f bytes = w.start
first_in None (Some f) bytes = begin_of f.walk bytes
first_in None None bytes = 0

abbrev pub structure_offsets_of : List ℕ → List (List ℕ) → List ℕ
structure_offsets_of bytes pieces =
    offsets_from (first_in (full_walk_of (field_at 0 4 bytes)) (further_walk_of (field_at 0 4 bytes)) bytes) pieces

abbrev pub NoStructures : List ℕ → Type 0
NoStructures bytes = (pieces : List (List ℕ)) → AreStructuresOf bytes pieces → ⊥

abbrev pub IsStructureFault : ReadError → List ℕ → Type 0
IsStructureFault e bytes = IsFaultBy (refusal_of e) (table_walk_of (field_at 0 4 bytes)) bytes (NoStructures bytes)

-- ---- the type of a piece

-- the number in the field with a piece's type, if there is such a field and the piece contains it
abbrev pub kind_in : Place → List ℕ → Option ℕ
kind_in place piece =
    if place_width place == 0 then None
    else (if nat_le (end_of place) (length piece) then Some (number_in place piece)
    else None)

-- the field with the type of the structures of a walk
abbrev pub kind_by : Option Walk → Place
kind_by (Some w) = w.kind
kind_by None = Nowhere

abbrev pub kind_of : List ℕ → Place
kind_of table = kind_by (walk_of (field_at 0 4 table))

abbrev pub structure_kind_of : List ℕ → Place
structure_kind_of table = kind_by (table_walk_of (field_at 0 4 table))
