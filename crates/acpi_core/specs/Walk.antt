-- The walk of a table of structures.
use Rattle.std.specs.Prelude.{◌≡◌, ℕ, ◌+◌, ◌<◌, ◌≤◌, Bool, true, false, IsTrue, List, length, take, slice_index, Some, None}
use Rattle.acpi_base.specs.Bytes.{carried}
use Rattle.acpi_base.specs.Table.{IsTrueTable}
use Rattle.acpi_base.specs.Walk.{place_offset, place_width, ArePieces, named, walk_of, offsets_from, ArePiecesOf}
use Rattle.acpi_base.specs.FurtherWalk.{table_walk_of, AreStructuresOf}
use Rattle.acpi_base.specs.declared.walk.Walk.{Walk}
use Rattle.acpi_core.specs.Listing.{Listing, IsListing, bytes_of, start_of}
use Rattle.acpi_core.specs.Offset.{offset_of}

-- the walk is that of a signature: of a table of the Rust crate if it is `ported`, and else of a further table
abbrev pub IsWalkFor : Bool → ℕ → Walk → Type 0
IsWalkFor true s w = walk_of s ≡ Some w
IsWalkFor false s w = (walk_of s ≡ None) × (table_walk_of s ≡ Some w)

-- the pieces are found in the bytes of a table: by `Table::pieces` if it is ported, and else by `Table::structures`
abbrev pub AreFoundIn : Bool → List ℕ → List (List ℕ) → Type 0
AreFoundIn true bytes pieces = ArePiecesOf bytes pieces
AreFoundIn false bytes pieces = AreStructuresOf bytes pieces

-- The walk is that of the table's signature, and begins at the first structure. If the table has a number of structures, the walk
-- has the place of that field. If the walk has a field for the start, this field follows the number and contains the start.
pub record IsWalkOf (ported : Bool) (w : Walk) (t : Listing) : Type 0 where
  pub signature : IsWalkFor ported (named t.signature) w
  pub start : w.start ≡ start_of t
  pub count_at : 1 ≤ place_width w.count → place_offset w.count ≡ 36 + length t.before
  pub count_width : place_width w.count ≡ t.count_width
  pub told : 1 ≤ place_width w.first
      → (place_offset w.first ≡ 36 + length t.before + t.count_width)
      × (place_width w.first ≤ length t.after)
      × (carried (take (place_width w.first) t.after) ≡ start_of t)

-- The invariant of a table: it has this walk, and its length is below the limit of its kind. In a closed kind each structure has
-- the length that the walk expects.
pub record Keeps (ported : Bool) (w : Walk) (limit : ℕ) (closed : Bool) (t : Listing) : Type 0 where
  pub is : IsListing t
  pub walk : IsWalkOf ported w t
  pub limited : t.limit ≡ limit
  pub pieces : IsTrue closed → ArePieces w.sizes t.structures

-- The table's bytes are a correct table. Its structures, in order and at their offsets, are the one list of pieces that the walk
-- of its signature finds.
pub record IsWalked (ported : Bool) (w : Walk) (t : Listing) : Type 0 where
  pub is_true : IsTrueTable (bytes_of t)
  pub walks : AreFoundIn ported (bytes_of t) t.structures
  pub only : (pieces : List (List ℕ)) → AreFoundIn ported (bytes_of t) pieces → pieces ≡ t.structures
  pub offsets : (i : ℕ) → i < length t.structures → slice_index (offsets_from w.start t.structures) i ≡ offset_of t i
