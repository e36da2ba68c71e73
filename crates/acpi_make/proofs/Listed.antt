-- Tables that are made without notes are walked by the structures that their texts list.
use Rattle.std.proofs.Common.{◌≡◌, ℕ, zero, suc, ◌+◌, ◌-◌, ◌^◌, ◌<◌, ◌≤◌, ◌==◌, nat_lt, nat_le, ◌&&◌, Bool, true, false, cond}
use Rattle.std.proofs.Common.{List, [], ◌∷◌, ◌++◌, length, take, drop, Some, refl, sym, ap, subst, ◌∙◌, arith}
use Rattle.std.specs.List.{concat}
use Rattle.std.proofs.Math.Seq.{drop-length}
use Rattle.std.proofs.lemmas.Bool.{lt-ltb, le-leb, eqb-true}
use Rattle.std.proofs.lemmas.List.{take-append-drop, drop-drop, drop-take, length-drop, length-take-le}
use Rattle.acpi_base.specs.Bytes.{carried, field_at}
use Rattle.acpi_base.specs.Walk.{place_offset, place_width, end_of, IsPiece, ArePieces, Tells, HasSizes}
use Rattle.acpi_base.specs.declared.walk.Place.{Place}
use Rattle.acpi_base.specs.declared.walk.Place.TheVariants.{Nowhere, Byte, Word, DWord}
use Rattle.acpi_base.specs.declared.walk.Sizes.{Sizes}
use Rattle.acpi_base.specs.declared.walk.Sizes.TheVariants.{EachOf, ToldAt, ByType}
use Rattle.acpi_make.specs.Draft.{nothing_yet}
use Rattle.acpi_make.specs.Laws.{TablesAreWalked}
use Rattle.acpi_make.specs.Extent.{own, own_at, size_own}
use Rattle.acpi_make.specs.Own.{next_start, count_structures, sizes_own}
use Rattle.acpi_make.specs.Pieces.{pieces_of, HasBytesOf, HaveBytesOf}
use Rattle.acpi_make.specs.declared.file_kind.FileKind.TheVariants as kinds
use Rattle.acpi_make.specs.declared.draft.Mark.{Mark}
use Rattle.acpi_make.specs.declared.draft.Mark.TheVariants.{Structure, Line, Reference}
use Rattle.acpi_make.specs.declared.extent.Own.{Own}
use Rattle.acpi_make.proofs.Truth.{AllHold, hold_both, holds, finished_is, quiet_is}
use Rattle.acpi_make.proofs.Order.{Ascending, start_within, all_ordered}

-- ---- the bytes of structures

piece_joined : (at next : ℕ) (bytes : List ℕ) → at ≤ next → take (next - at) (drop at bytes) ++ drop next bytes ≡ drop at bytes
piece_joined at next bytes less =
    ap (λ l. take (next - at) (drop at bytes) ++ l)
    (ap (λ k. drop k bytes) (let e : next ≡ at + (next - at) = omega (arith, less) in e) ∙ sym (drop-drop (next - at) at bytes))
    ∙ take-append-drop (next - at) (drop at bytes)

joined : (marks : List Mark) (bytes : List ℕ) → Ascending marks (length bytes) → drop (next_start marks (length bytes)) bytes ≡ concat (pieces_of marks bytes)
joined [] bytes up = drop-length bytes
joined (Structure at from to ∷ marks) bytes up =
    let next = next_start marks (length bytes) in
    sym (piece_joined at next bytes up.0) ∙ ap (λ l. take (next - at) (drop at bytes) ++ l) (joined marks bytes up.1)
joined (Line at from to ∷ marks) bytes up = joined marks bytes up
joined (Reference at w from to ∷ marks) bytes up = joined marks bytes up

counted : (marks : List Mark) (bytes : List ℕ) → count_structures marks ≡ length (pieces_of marks bytes)
counted [] bytes = refl
counted (Structure at from to ∷ marks) bytes = omega (arith, counted marks bytes)
counted (Line at from to ∷ marks) bytes = counted marks bytes
counted (Reference at w from to ∷ marks) bytes = counted marks bytes

-- ---- numbers at places

three_chosen : (a b c : Bool) (x y : List Own) → a ≡ true → b ≡ true → c ≡ true → cond (a && b && c) x y ≡ x
three_chosen true true true x y one two three = refl
three_chosen true true false x y one two three = absurd cc
three_chosen true false c x y one two three = absurd cc
three_chosen false b c x y one two three = absurd cc

-- a number at a place of a structure, without a note, is there
place_holds : (start size : ℕ) (place : Place) (n : ℕ) (bytes : List ℕ) → start < 2 ^ 62 → 1 ≤ place_width place → end_of place ≤ size
    → start + size ≤ length bytes → AllHold bytes (own_at start size place n) → field_at (start + place_offset place) (place_width place) bytes ≡ n
place_holds start size place n bytes small wide within inside hold =
    let is = three_chosen (nat_lt start (2 ^ 62)) (nat_le 1 (place_width place)) (nat_le (end_of place) size) _ []
    (lt-ltb start (2 ^ 62) small) (le-leb 1 (place_width place) wide) (le-leb (end_of place) size within) in
    let one : AllHold bytes (own (start + place_offset place) (place_width place) n ∷ []) = subst (AllHold bytes) is hold in
    holds (start + place_offset place) (place_width place) n bytes
    (omega (arith, within, inside, length-drop (start + place_offset place) bytes)) one.0

take_front : (w m : ℕ) (l : List ℕ) → w ≤ m → take w (take m l) ≡ take w l
take_front zero m l few = refl
take_front (suc w) zero l few = absurd (omega (arith, few))
take_front (suc w) (suc m) [] few = refl
take_front (suc w) (suc m) (x ∷ l) few = ap (λ rest. x ∷ rest) (take_front w m l (omega (arith, few)))

-- a field of a structure is one of the table
field_inside : (at size offset w : ℕ) (bytes : List ℕ) → offset + w ≤ size → field_at offset w (take size (drop at bytes)) ≡ field_at (at + offset) w bytes
field_inside at size offset w bytes within =
    let rest = drop at bytes in
    let long : size ≡ offset + (size - offset) = omega (arith, within) in
    let front = ap (λ k. drop offset (take k rest)) long ∙ drop-take offset (size - offset) rest in
    ap carried
    (ap (take w) front ∙ take_front w (size - offset) (drop offset rest) (omega (arith, within)) ∙ ap (take w) (drop-drop offset at bytes))

-- ---- structures

wide_place : (place : Place) → 1 ≤ end_of place → 1 ≤ place_width place
wide_place Nowhere some = some
wide_place (Byte offset) some = omega arith
wide_place (Word offset) some = omega arith
wide_place (DWord offset) some = omega arith

piece_is : (sizes : Sizes) (at next : ℕ) (bytes : List ℕ) → HasSizes sizes → at ≤ next → next ≤ length bytes → length bytes < 2 ^ 62
    → HasBytesOf sizes (take (next - at) (drop at bytes)) → AllHold bytes (size_own sizes at (next - at))
    → IsPiece sizes (take (next - at) (drop at bytes))
piece_is (EachOf size) at next bytes sound up within small has hold = has
piece_is (ByType kind types) at next bytes sound up within small has hold = has
piece_is (ToldAt place) at next bytes sound up within small has hold =
    let size = next - at in
    let long = length-take-le size (drop at bytes) (omega (arith, up, within, length-drop at bytes)) in
    let fits : end_of place ≤ size = omega (arith, has, long) in (
      has,
      field_inside at size (place_offset place) (place_width place) bytes fits
          ∙ place_holds at size place size bytes (omega (arith, up, within, small)) (wide_place place sound) fits (omega (arith, up, within)) hold
          ∙ sym long,
    )

pieces_are : (sizes : Sizes) (marks : List Mark) (bytes : List ℕ) → HasSizes sizes → Ascending marks (length bytes) → length bytes < 2 ^ 62
    → HaveBytesOf sizes (pieces_of marks bytes) → AllHold bytes (sizes_own sizes marks (length bytes)) → ArePieces sizes (pieces_of marks bytes)
pieces_are sizes [] bytes sound up small have hold = tt
pieces_are sizes (Structure at from to ∷ marks) bytes sound up small have hold =
    let next = next_start marks (length bytes) in
    let both = hold_both bytes (size_own sizes at (next - at)) (sizes_own sizes marks (length bytes)) hold in (
      piece_is sizes at next bytes sound up.0 (start_within marks (length bytes) up.1) small have.0 both.0,
      pieces_are sizes marks bytes sound up.1 small have.1 both.1,
    )
pieces_are sizes (Line at from to ∷ marks) bytes sound up small have hold = pieces_are sizes marks bytes sound up small have hold
pieces_are sizes (Reference at w from to ∷ marks) bytes sound up small have hold = pieces_are sizes marks bytes sound up small have hold

-- ---- whole tables

-- a number of the table's own fields
told : (start n : ℕ) (place : Place) (bytes : List ℕ) → end_of place ≤ start → start ≤ length bytes → AllHold bytes (own_at 0 start place n)
    → Tells place bytes n
told start n place bytes within inside hold wide =
    ap (λ k. field_at k (place_width place) bytes) (let e : place_offset place ≡ 0 + place_offset place = omega arith in e)
    ∙ place_holds 0 start place n bytes (omega arith) wide within (omega (arith, inside)) hold

-- numbers that are there, where there are structures
all_hold : (b : Bool) (bytes : List ℕ) (all others : List Own) → b ≡ false → AllHold bytes (cond b [] all ++ others) → AllHold bytes all
all_hold true bytes all others is hold = absurd cc
all_hold false bytes all others is hold = (hold_both bytes all others hold).0

others_hold : (b : Bool) (bytes : List ℕ) (all others : List Own) → AllHold bytes (cond b [] all ++ others) → AllHold bytes others
others_hold true bytes all others hold = hold
others_hold false bytes all others hold = (hold_both bytes all others hold).1

-- by whether there is a structure
either_told : {T : Type 0} (count : ℕ) (b : Bool) → (count == 0) ≡ b → (count ≡ 0 → T) → ((count == 0) ≡ false → T) → T
either_told count true is empty full = empty (eqb-true count 0 is)
either_told count false is empty full = full is

pub tables_walked : TablesAreWalked
tables_walked walk s parts d table sound taken is none small first empty have =
    let done = finished_is kinds.Table (Some walk) s d table is in
    let quiet = quiet_is (Some walk) s d table done none in
    let bytes = table.bytes in
    let total = length bytes in
    let up : Ascending d.marks total = subst (Ascending d.marks) (sym done.size) (all_ordered s parts nothing_yet d tt taken) in
    let inside : walk.start ≤ total = subst (λ k. k ≤ total) first (start_within d.marks total up) in
    let count = count_structures d.marks in
    let all : ℕ → List Own = λ k. own_at 0 k walk.count count ++ own_at 0 k walk.first k in
    let owns : ℕ → ℕ → List Own = λ k n. cond (count == 0) [] (all k) ++ sizes_own walk.sizes d.marks n in
    let hold = subst (λ n. AllHold bytes (owns (next_start d.marks n) n)) (sym done.size) quiet.hold.1 in
    let starts = subst (λ k. AllHold bytes (owns k total)) first hold in
    let both : (count == 0) ≡ false → AllHold bytes (own_at 0 walk.start walk.count count) × AllHold bytes (own_at 0 walk.start walk.first walk.start)
    = λ some. hold_both bytes (own_at 0 walk.start walk.count count) (own_at 0 walk.start walk.first walk.start)
    (all_hold (count == 0) bytes (all walk.start) (sizes_own walk.sizes d.marks total) some starts) in
    record {
      reaches = inside;
      joined = ap (λ k. drop k bytes) (sym first) ∙ joined d.marks bytes up;
      each = pieces_are walk.sizes d.marks bytes sound.has up small have (others_hold (count == 0) bytes _ _ starts);
      counted = λ wide. either_told count (count == 0) refl
          (λ zero. (empty zero).0 wide ∙ sym zero)
          (λ some. told walk.start count walk.count bytes sound.count inside (both some).0 wide)
          ∙ counted d.marks bytes;
      started = either_told count (count == 0) refl (λ zero. (empty zero).1)
          (λ some. told walk.start walk.start walk.first bytes sound.told inside (both some).1);
    }
