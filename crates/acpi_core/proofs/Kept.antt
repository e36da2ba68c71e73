-- What tables keep over additions.
use Rattle.std.proofs.Common.{◌≡◌, ℕ, ◌+◌, List, Bool, true, false, IsTrue, length, take, refl, ap, ◌∙◌, inl}
use Rattle.std.specs.Prelude.{Result, Ok, Err, OnOk, IfErr, Option, Some, None}
use Rattle.acpi_base.specs.declared.error.Error.{Error}
use Rattle.acpi_base.specs.Sink.{Meaning}
use Rattle.acpi_base.specs.Table.{IsTrueTable}
use Rattle.acpi_base.specs.Object.{Object, whole, Wrote, WriteRefused}
use Rattle.acpi_base.specs.Walk.{IsPiece, ArePieces, IsSound, Walks, walk_of, named}
use Rattle.acpi_base.specs.FurtherWalk.{full_walk_of, further_walk_of, either_walk, FollowsBy, AreStructuresOf}
use Rattle.acpi_base.specs.declared.further_walk.FurtherWalk.{FurtherWalk}
use Rattle.acpi_base.specs.declared.walk.Sizes.{Sizes}
use Rattle.acpi_base.specs.declared.walk.Walk.{Walk}
use Rattle.acpi_base.specs.Bytes.{field_at}
use Rattle.std.specs.List.{concat}
use Rattle.acpi_base.proofs.Walks.{pieces_push, is_sound, one_list_of_pieces}
use Rattle.acpi_base.proofs.FurtherWalks.{full_is_none, is_sound_further, walks_follow, one_list_of_structures}
use Rattle.acpi_core.specs.Listing.{Listing, IsListing, bytes_of, with_structure}
use Rattle.acpi_core.specs.Addition.{Counted, Adds, refusal_of}
use Rattle.acpi_core.specs.Walk.{IsWalkFor, AreFoundIn, IsWalkOf, Keeps, IsWalked}
use Rattle.acpi_core.proofs.Offsets.{are_true, the_walk, grow, signature_told, places}

accepted_whole : (t : Listing) (end : Option Error) (n : ℕ) → refusal_of t end n ≡ None → refusal_of t None n ≡ None
accepted_whole t None n h = h
accepted_whole t (Some e) n h = absurd cc

pub listing_on : {T : Type 0} (r : Result T Error) (old new : Counted) (o : Object) → IsListing old.table → Adds r old o new → IsListing new.table
listing_on (Ok u) old new o is adds = rw adds.ok (grow old.table o.front is (accepted_whole old.table o.end (length o.front) adds.accepted))
listing_on (Err e) old new o is adds = rw adds.err is

walk_more : (ported : Bool) (w : Walk) (t : Listing) (x : List ℕ) → IsWalkOf ported w t → IsWalkOf ported w (with_structure t x)
walk_more ported w t x walk = record { signature = walk.signature; start = walk.start; count_at = walk.count_at; count_width = walk.count_width; told = walk.told }

pub walk_on : (ported : Bool) (w : Walk) {T : Type 0} (r : Result T Error) (old new : Counted) (o : Object) → IsWalkOf ported w old.table → Adds r old o new → IsWalkOf ported w new.table
walk_on ported w (Ok u) old new o walk adds = rw adds.ok (walk_more ported w old.table o.front walk)
walk_on ported w (Err e) old new o walk adds = rw adds.err walk

pub accepted_end : (t : Listing) (end : Option Error) (n : ℕ) → refusal_of t end n ≡ None → end ≡ None
accepted_end t None n h = refl
accepted_end t (Some e) n h = absurd cc

pieces_on : (s : Sizes) {T : Type 0} (r : Result T Error) (old new : Counted) (o : Object) → ArePieces s old.table.structures → (o.end ≡ None → IsPiece s o.front) → Adds r old o new → ArePieces s new.table.structures
pieces_on s (Ok u) old new o all one adds = rw adds.ok (pieces_push s old.table.structures o.front all (one (accepted_end old.table o.end (length o.front) adds.accepted)))
pieces_on s (Err e) old new o all one adds = rw adds.err all

limit_on : {T : Type 0} (r : Result T Error) (old new : Counted) (o : Object) (limit : ℕ) → old.table.limit ≡ limit → Adds r old o new → new.table.limit ≡ limit
limit_on (Ok u) old new o limit is adds = rw adds.ok is
limit_on (Err e) old new o limit is adds = rw adds.err is

-- an addition, accepted or refused, keeps what a table keeps
pub keeps_on : (ported : Bool) (w : Walk) (limit : ℕ) (closed : Bool) {T : Type 0} (r : Result T Error) (old new : Counted) (o : Object) → Keeps ported w limit closed old.table
    → (IsTrue closed → o.end ≡ None → IsPiece w.sizes o.front) → Adds r old o new → Keeps ported w limit closed new.table
keeps_on ported w limit closed r old new o kept one adds = record {
  is = listing_on r old new o kept.is adds;
  walk = walk_on ported w r old new o kept.walk adds;
  limited = limit_on r old new o limit kept.limited adds;
  pieces = λ all. pieces_on w.sizes r old new o (kept.pieces all) (one all) adds;
}

-- an addition of a record, whose bytes are as many as its type says
pub keeps_record : (ported : Bool) (w : Walk) (limit : ℕ) (closed : Bool) {T : Type 0} (r : Result T Error) (old new : Counted) (n : ℕ) (made bytes : List ℕ) → Keeps ported w limit closed old.table
    → (IsTrue closed → length bytes ≡ n → IsPiece w.sizes bytes) → made ≡ bytes → length made ≡ n → Adds r old (whole made) new → Keeps ported w limit closed new.table
keeps_record ported w limit closed r old new n made bytes kept one same size adds =
    keeps_on ported w limit closed r old new (whole made) kept (λ all _. rw same (one all (rw (← same) size))) adds

-- what a table is of which the walk is known
pub is_true : (ported : Bool) (w : Walk) (limit : ℕ) (closed : Bool) (t : Listing) → Keeps ported w limit closed t → IsTrueTable (bytes_of t)
is_true ported w limit closed t kept = (are_true t kept.is).0

-- a signature's walk of a further table
pub record IsFurther (s : ℕ) (w : Walk) : Type 0 where
  pub further : FurtherWalk
  pub found : further_walk_of s ≡ Some further
  pub is : further.walk ≡ w

further_by : (s : ℕ) (o : Option Walk) (p : Option FurtherWalk) (w : Walk) → further_walk_of s ≡ p → o ≡ None → either_walk o p ≡ Some w → IsFurther s w
further_by s (Some x) p w found none is = absurd cc
further_by s None None w found none is = absurd cc
further_by s None (Some f) w found none is = record { further = f; found = found; is = cc }

is_further : (s : ℕ) (w : Walk) → IsWalkFor false s w → IsFurther s w
is_further s w for = further_by s (full_walk_of s) (further_walk_of s) w refl (full_is_none s for.0) for.1

pub sound_for : (ported : Bool) (s : ℕ) (w : Walk) → IsWalkFor ported s w → IsSound w
sound_for true s w for = is_sound s w for
sound_for false s w for =
    let f = is_further s w for in
    rw (← f.is) ((is_sound_further s f.further f.found).walk)

found_further : (s : ℕ) (w : Walk) (bytes : List ℕ) (ps : List (List ℕ)) → field_at 0 4 bytes ≡ s → IsWalkFor false s w → Walks w bytes ps → AreStructuresOf bytes ps
found_further s w bytes ps told for walks =
    let f = is_further s w for in
    let follows : FollowsBy (Some f.further) bytes ps = inl (walks_follow f.further bytes ps (is_sound_further s f.further f.found) (rw f.is walks)) in
    rw (ap full_walk_of told ∙ full_is_none s for.0, ap further_walk_of told ∙ f.found) follows

-- what the walk of its signature finds in a table
found_in : (ported : Bool) (s : ℕ) (w : Walk) (bytes : List ℕ) (ps : List (List ℕ)) → field_at 0 4 bytes ≡ s → IsWalkFor ported s w → Walks w bytes ps → AreFoundIn ported bytes ps
found_in true s w bytes ps told for walks = rw (ap walk_of told ∙ for) walks
found_in false s w bytes ps told for walks = found_further s w bytes ps told for walks

one_found_in : (ported : Bool) (bytes : List ℕ) (ps qs : List (List ℕ)) → AreFoundIn ported bytes ps → AreFoundIn ported bytes qs → ps ≡ qs
one_found_in true bytes ps qs a b = one_list_of_pieces bytes ps qs a b
one_found_in false bytes ps qs a b = one_list_of_structures bytes ps qs a b

pub is_walked : (ported : Bool) (w : Walk) (limit : ℕ) (closed : Bool) (t : Listing) → Keeps ported w limit closed t → ArePieces w.sizes t.structures → IsWalked ported w t
is_walked ported w limit closed t kept pieces =
    let s = named t.signature in
    let sound = sound_for ported s w kept.walk.signature in
    let walks = (the_walk t ported w kept.is kept.walk sound.has pieces).0 in
    let found = found_in ported s w (bytes_of t) t.structures (signature_told t kept.is) kept.walk.signature walks in
    record {
      is_true = (are_true t kept.is).0;
      walks = found;
      only = λ ps other. one_found_in ported (bytes_of t) ps t.structures other found;
      offsets = λ i h. places w.start t.structures i h ∙ ap (λ n. n + length (concat (take i t.structures))) kept.walk.start;
    }

-- what a table writes that is the only field of another
pub wrote_same : {T : Type 0} (r : Result T Error) (a b : Counted) (m k : Meaning) → a ≡ b → OnOk r (Wrote (whole (bytes_of a.table)) m k) → OnOk r (Wrote (whole (bytes_of b.table)) m k)
wrote_same (Ok u) a b m k same wrote = rw (← same) wrote
wrote_same (Err e) a b m k same wrote = tt

pub refused_same : {T : Type 0} (r : Result T Error) (a b : Counted) (m k : Meaning) → a ≡ b → IfErr r (λ e. WriteRefused e (whole (bytes_of a.table)) m k) → IfErr r (λ e. WriteRefused e (whole (bytes_of b.table)) m k)
refused_same (Ok u) a b m k same refused = tt
refused_same (Err e) a b m k same refused = rw (← same) refused
