-- Lists of calls that add structures to a table.
use Rattle.std.specs.Prelude.{◌≡◌, ℕ, Bool, List, [], ◌∷◌, Result, Ok, Err, IfOk, None}
use Rattle.acpi_base.specs.declared.error.Error.{Error}
use Rattle.acpi_base.specs.declared.walk.Walk.{Walk}
use Rattle.acpi_base.specs.Object.{Object}
use Rattle.acpi_core.specs.Addition.{Counted, Adds, AddsAt}
use Rattle.acpi_core.specs.Listing.{Listing, bytes_of, with_structure}
use Rattle.acpi_core.specs.Offset.{IsLater, StandIn}
use Rattle.acpi_core.specs.Walk.{IsWalked}

-- A call, and the table after it. It is a call of an adder, with the structure that was given and the result, which for some
-- adders is the structure's offset. Or it is a call that failed before the structure was used.
pub data Call : Type 0 where
  adds : Object → Result Unit Error → Counted → Call
  adds_at : Object → Result ℕ Error → Counted → Call
  refused : Counted → Call

-- the calls were made one after another, each on the table that the call before it left
abbrev pub AreCalls : Counted → List Call → Type 0
AreCalls t [] = Unit {0}
AreCalls t (adds o r next ∷ calls) = Adds r t o next × AreCalls next calls
AreCalls t (adds_at o r next ∷ calls) = AddsAt r t o next × AreCalls next calls
AreCalls t (refused next ∷ calls) = (next ≡ t) × AreCalls next calls

-- the table after the last call
abbrev pub table_after : Counted → List Call → Counted
table_after t [] = t
table_after t (adds o r next ∷ calls) = table_after next calls
table_after t (adds_at o r next ∷ calls) = table_after next calls
table_after t (refused next ∷ calls) = table_after next calls

-- the structures that were added, in order
abbrev pub accepted : List Call → List (List ℕ)
accepted [] = []
accepted (adds o (Ok done) next ∷ calls) = o.front ∷ accepted calls
accepted (adds o (Err e) next ∷ calls) = accepted calls
accepted (adds_at o (Ok at) next ∷ calls) = o.front ∷ accepted calls
accepted (adds_at o (Err e) next ∷ calls) = accepted calls
accepted (refused next ∷ calls) = accepted calls

-- a table with these structures added at its end
abbrev pub with_all : Listing → List (List ℕ) → Listing
with_all t [] = t
with_all t (structure ∷ structures) = with_all (with_structure t structure) structures

-- the bytes of each structure are at the offset that was returned for it
abbrev pub StandAtHandles : List ℕ → List Call → Type 0
StandAtHandles bytes [] = Unit {0}
StandAtHandles bytes (adds o r next ∷ calls) = StandAtHandles bytes calls
StandAtHandles bytes (adds_at o (Ok at) next ∷ calls) =
    StandIn bytes at o.front × StandAtHandles bytes calls
StandAtHandles bytes (adds_at o (Err e) next ∷ calls) = StandAtHandles bytes calls
StandAtHandles bytes (refused next ∷ calls) = StandAtHandles bytes calls

-- After the calls the table is the first one with the added structures. These are the one list that the walk finds in its bytes.
-- At each offset that was returned stand the bytes of its structure.
pub record IsAfter (ported : Bool) (w : Walk) (first : Listing) (calls : List Call) (last : Listing) : Type 0 where
  pub table : last ≡ with_all first (accepted calls)
  pub structures : last.structures ≡ accepted calls
  pub walked : IsWalked ported w last
  pub handles : StandAtHandles (bytes_of last) calls

-- This holds for every list of calls that leads from the first table, which has no structures, to this one.
pub record IsAfterItsCalls (ported : Bool) (w : Walk) (first : Listing) (last : Counted) : Type 0 where
  pub holds : (start : Counted) (calls : List Call) → start.table ≡ first → AreCalls start calls → table_after start calls ≡ last
      → IsAfter ported w first calls last.table

-- ---- one call, and all later ones

-- At the offset that an adder returned for a node, the bytes of a table have the node, and so its kind. This holds after any
-- later calls.
abbrev pub NodeStands : Listing → Object → List ℕ → Type 0
NodeStands t node kind =
    (result : Result ℕ Error) (old new : Counted) → AddsAt result old node new → IsLater new.table t
    → IfOk result (λ at. StandIn (bytes_of t) at node.front × StandIn (bytes_of t) at kind)

-- this holds for each node that begins with its kind
pub record HoldsNodes (t : Listing) : Type 0 where
  pub holds : (node : Object) (kind : List ℕ) → (node.end ≡ None → StandIn node.front 0 kind) → NodeStands t node kind
