-- Any list of calls.
use Rattle.std.proofs.Common.{◌≡◌, ℕ, Bool, List, [], ◌∷◌, ◌++◌, ◌≤◌, length, take, drop, refl, sym, ap, subst, ◌∙◌, append_assoc, arith}
use Rattle.std.specs.Prelude.{Ok, Err, None}
use Rattle.std.proofs.lemmas.List.{append-nil, take_at, take-append-le, take-append-drop, length-take}
use Rattle.acpi_base.specs.declared.walk.Walk.{Walk}
use Rattle.acpi_base.specs.Object.{Object}
use Rattle.acpi_core.specs.Listing.{Listing, IsListing, bytes_of, with_structure}
use Rattle.acpi_core.specs.Addition.{Counted}
use Rattle.acpi_core.specs.Offset.{IsLater, StandsAt, StandIn}
use Rattle.acpi_core.specs.Walk.{IsWalked}
use Rattle.acpi_core.specs.Calls.{Call, adds, adds_at, refused, AreCalls, table_after, accepted, with_all, StandAtHandles, IsAfter, IsAfterItsCalls, NodeStands, HoldsNodes}
use Rattle.acpi_core.proofs.Kept.{accepted_end}
use Rattle.acpi_core.proofs.Offsets.{stand}
use Rattle.acpi_core.proofs.Handles.{are_later, handles_stand, same_is_later}

is : (t : Counted) (calls : List Call) → AreCalls t calls → (table_after t calls).table ≡ with_all t.table (accepted calls)
is t [] c = refl
is t (adds o (Ok u) next ∷ calls) c = is next calls c.1 ∙ ap (λ l. with_all l (accepted calls)) c.0.ok
is t (adds o (Err e) next ∷ calls) c = is next calls c.1 ∙ ap (λ n. with_all n.table (accepted calls)) c.0.err
is t (adds_at o (Ok at) next ∷ calls) c = is next calls c.1 ∙ ap (λ l. with_all l (accepted calls)) c.0.adds.ok
is t (adds_at o (Err e) next ∷ calls) c = is next calls c.1 ∙ ap (λ n. with_all n.table (accepted calls)) c.0.adds.err
is t (refused next ∷ calls) c = is next calls c.1 ∙ ap (λ n. with_all n.table (accepted calls)) c.0

structures_of : (t : Listing) (ss : List (List ℕ)) → (with_all t ss).structures ≡ t.structures ++ ss
structures_of t [] = sym (append-nil t.structures)
structures_of t (s ∷ ss) = structures_of (with_structure t s) ss ∙ append_assoc t.structures (s ∷ []) ss

later : (t : Counted) (calls : List Call) → AreCalls t calls → IsLater t.table (table_after t calls).table
later t [] c = same_is_later t.table
later t (adds o r next ∷ calls) c = are_later.more t.table next.table (table_after next calls).table (are_later.one r t next o c.0) (later next calls c.1)
later t (adds_at o r next ∷ calls) c = are_later.more t.table next.table (table_after next calls).table (are_later.answered r t next o c.0) (later next calls c.1)
later t (refused next ∷ calls) c = subst (λ (n : Counted). IsLater n.table (table_after next calls).table) c.0 (later next calls c.1)

-- what stands at an offset of a table stands there in its bytes
pub bytes_stand : (t : Listing) (at : ℕ) (structure : List ℕ) → IsListing t → StandsAt t at structure → StandIn (bytes_of t) at structure
bytes_stand t at structure is stands =
    let there = stand t stands.index is stands.in_table in
    ap (λ n. take (length structure) (drop n (bytes_of t))) (sym stands.offset) ∙ ap (take (length structure)) (there.1 ∙ ap (λ l. l ++ there.0) stands.is)
    ∙ take_at structure there.0 (length structure) refl

hold : (t : Counted) (calls : List Call) → IsListing (table_after t calls).table → AreCalls t calls → StandAtHandles (bytes_of (table_after t calls).table) calls
hold t [] is c = tt
hold t (adds o r next ∷ calls) is c = hold next calls is c.1
hold t (adds_at o (Ok at) next ∷ calls) is c =
    let last = (table_after next calls).table in
    (bytes_stand last at o.front is (handles_stand.later next.table last at o.front (later next calls c.1) (handles_stand.now (Ok at) t next o c.0)), hold next calls is c.1)
hold t (adds_at o (Err e) next ∷ calls) is c = hold next calls is c.1
hold t (refused next ∷ calls) is c = hold next calls is c.1

after : (ported : Bool) (w : Walk) (start : Counted) (calls : List Call) → start.table.structures ≡ [] → AreCalls start calls
    → IsListing (table_after start calls).table → IsWalked ported w (table_after start calls).table
    → IsAfter ported w start.table calls (table_after start calls).table
after ported w start calls none c listing walked = record {
  table = is start calls c;
  structures = ap (λ l. l.structures) (is start calls c) ∙ structures_of start.table (accepted calls) ∙ ap (λ s. s ++ accepted calls) none;
  walked = walked;
  handles = hold start calls listing c;
}

pub is_after_its_calls : (ported : Bool) (w : Walk) (first : Listing) (last : Counted) → first.structures ≡ [] → IsListing last.table → IsWalked ported w last.table
    → IsAfterItsCalls ported w first last
is_after_its_calls ported w first last none listing walked = record {
  holds = λ start calls begins c ends.
      subst (λ (l : Counted). IsAfter ported w first calls l.table) ends
      (subst (λ (f : Listing). IsAfter ported w f calls (table_after start calls).table) begins
      (after ported w start calls (ap (λ l. l.structures) begins ∙ none) c (rw ends listing) (rw ends walked)));
}

-- what stands at the beginning of bytes that stand in others stands there too
front_stands : (bytes part front : List ℕ) (at : ℕ) → StandIn bytes at front → StandIn front 0 part → StandIn bytes at part
front_stands bytes part front at stands first =
    let rest = drop (length front) (drop at bytes) in
    let cut : drop at bytes ≡ front ++ rest = sym (take-append-drop (length front) (drop at bytes)) ∙ ap (λ l. l ++ rest) stands in
    let within : length part ≤ length front = omega (arith, ap length first, length-take (length part) front) in
    ap (take (length part)) cut ∙ take-append-le (length part) front rest within ∙ first

node_stands : (t : Listing) → IsListing t → (node : Object) (kind : List ℕ) → (node.end ≡ None → StandIn node.front 0 kind) → NodeStands t node kind
node_stands t listing node kind first (Err e) old new added more = tt
node_stands t listing node kind first (Ok at) old new added more =
    let stands = bytes_stand t at node.front listing (handles_stand.later new.table t at node.front more (handles_stand.now (Ok at) old new node added)) in
    (stands, front_stands (bytes_of t) kind node.front at stands (first (accepted_end old.table node.end (length node.front) added.adds.accepted)))

pub holds_nodes : (t : Listing) → IsListing t → HoldsNodes t
holds_nodes t listing = record { holds = node_stands t listing }
