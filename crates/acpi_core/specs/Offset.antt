-- The offsets of structures in a table.
use Rattle.std.specs.Prelude.{◌≡◌, ℕ, ◌+◌, ◌<◌, List, [], ◌++◌, length, take, drop, slice_index_or}
use Rattle.std.specs.List.{concat}
use Rattle.acpi_core.specs.Listing.{Listing, start_of}

-- the i-th structure that was added
abbrev pub structure_at : Listing → ℕ → List ℕ
structure_at t i = slice_index_or t.structures i []

-- its offset: the start of the structures, and the sizes of those before it
abbrev pub offset_of : Listing → ℕ → ℕ
offset_of t i = start_of t + length (concat (take i t.structures))

-- the second table is the first after any number of additions
pub record IsLater (old new : Listing) : Type 0 where
  pub added : List (List ℕ)
  pub before : new.before ≡ old.before
  pub width : new.count_width ≡ old.count_width
  pub after : new.after ≡ old.after
  pub structures : new.structures ≡ old.structures ++ added

-- each structure of the first table stands in the second at the same offset
abbrev pub KeepsStructures : Listing → Listing → Type 0
KeepsStructures old new = (i : ℕ) → i < length old.structures
    → (offset_of new i ≡ offset_of old i) × (structure_at new i ≡ structure_at old i)

-- a structure of these bytes stands at an offset
pub record StandsAt (t : Listing) (at : ℕ) (structure : List ℕ) : Type 0 where
  pub index : ℕ
  pub in_table : index < length t.structures
  pub offset : offset_of t index ≡ at
  pub is : structure_at t index ≡ structure

-- bytes stand at an offset of others
abbrev pub StandIn : List ℕ → ℕ → List ℕ → Type 0
StandIn bytes at part = take (length part) (drop at bytes) ≡ part
