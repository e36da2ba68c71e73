-- Handles: where structures stand.
use Rattle.std.proofs.Common.{◌≡◌, ℕ, ◌+◌, ◌<◌, ◌≤◌, List, [], ◌∷◌, ◌++◌, length, take, drop, refl, sym, ap, ◌∙◌, arith, append_assoc, length-append}
use Rattle.std.specs.Prelude.{Result, Ok, Err, IfOk}
use Rattle.std.specs.List.{concat}
use Rattle.std.proofs.lemmas.List.{append-nil, take-append-drop, drop_more}
use Rattle.acpi_base.specs.declared.error.Error.{Error}
use Rattle.acpi_base.specs.Object.{Object}
use Rattle.acpi_core.specs.Listing.{Listing, size_of}
use Rattle.acpi_core.specs.Addition.{Counted, Adds, AddsAt}
use Rattle.acpi_core.specs.Offset.{structure_at, offset_of, IsLater, StandsAt}
use Rattle.acpi_core.specs.Laws.{AdditionsAreLater, HandlesStand, HandlesDiffer}
use Rattle.acpi_core.proofs.Offsets.{keeps, at_the_end}
use Rattle.std.proofs.lemmas.List.Folds.{concat-append}

pub same_is_later : (t : Listing) → IsLater t t
same_is_later t = record { added = []; before = refl; width = refl; after = refl; structures = sym (append-nil t.structures) }

one_is_later : {T : Type 0} (r : Result T Error) (old new : Counted) (o : Object) → Adds r old o new → IsLater old.table new.table
one_is_later (Ok u) old new o adds = rw adds.ok ((at_the_end old.table o.front).2)
one_is_later (Err e) old new o adds = rw adds.err (same_is_later old.table)

later_is_later : (a b c : Listing) → IsLater a b → IsLater b c → IsLater a c
later_is_later a b c first second = record {
  added = first.added ++ second.added;
  before = second.before ∙ first.before;
  width = second.width ∙ first.width;
  after = second.after ∙ first.after;
  structures = second.structures ∙ ap (λ s. s ++ second.added) first.structures ∙ append_assoc a.structures first.added second.added;
}

pub are_later : AdditionsAreLater
are_later = record { one = one_is_later; answered = λ r old new o adds. one_is_later r old new o adds.adds; more = later_is_later }

stand_now : (r : Result ℕ Error) (old new : Counted) (o : Object) → AddsAt r old o new → IfOk r (λ at. StandsAt new.table at o.front)
stand_now (Ok at) old new o adds =
    let end = at_the_end old.table o.front in
    rw adds.adds.ok (record {
      index = length old.table.structures;
      in_table = omega (arith, length-append old.table.structures (o.front ∷ []));
      offset = end.0 ∙ sym adds.offset;
      is = end.1;
    })
stand_now (Err e) old new o adds = tt

stand_later : (old new : Listing) (at : ℕ) (structure : List ℕ) → IsLater old new → StandsAt old at structure → StandsAt new at structure
stand_later old new at structure later stands =
    let kept = keeps old new later stands.index stands.in_table in
    record {
      index = stands.index;
      in_table = omega (arith, stands.in_table, ap length later.structures, length-append old.structures later.added);
      offset = kept.0 ∙ stands.offset;
      is = kept.1 ∙ stands.is;
    }

pub handles_stand : HandlesStand
handles_stand = record { now = stand_now; later = stand_later }

-- a structure ends within its table
ends_within : (t : Listing) (i : ℕ) → i < length t.structures → offset_of t i + length (structure_at t i) ≤ size_of t
ends_within t i h =
    let before = concat (take i t.structures) in
    let rest = concat (drop (i + 1) t.structures) in
    let cut : concat t.structures ≡ before ++ (structure_at t i ++ rest) =
    ap concat (sym (take-append-drop i t.structures)) ∙ concat-append (take i t.structures) (drop i t.structures) ∙ ap (λ l. before ++ concat l) (drop_more t.structures i [] h) in
    omega (arith, ap length cut, length-append before (structure_at t i ++ rest), length-append (structure_at t i) rest)

pub handles_differ : HandlesDiffer
handles_differ (Ok next) old new o at structure adds stands has =
    omega (arith, adds.offset, ends_within old.table stands.index stands.in_table, ap length stands.is, stands.offset, has)
handles_differ (Err e) old new o at structure adds stands has = tt
