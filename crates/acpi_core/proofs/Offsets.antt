-- Structures in their places.
use Rattle.std.proofs.Common.{◌≡◌, ℕ, zero, suc, ◌+◌, ◌*◌, ◌^◌, ◌<◌, ◌≤◌, List, [], ◌∷◌, ◌++◌, length, get_or, take, drop, refl, sym, ap, subst, ◌∙◌, arith, append_assoc, length-append, Bool, true, false, ⊎_elim, inl, inr}
use Rattle.std.specs.Prelude.{sum, slice_index, None, Some, ◌⊎◌, if◌then◌else◌}
use Rattle.std.specs.List.{concat}
use Rattle.std.proofs.lemmas.List.{take-append-le, get_or_append_left, get_or_at, take_at, drop_at, drop_more, take-append-drop, length-take-le}
use Rattle.std.proofs.lemmas.Bool.{cases_lt}
use Rattle.std.proofs.lemmas.Bool.Decides.{nat_tests}
use Rattle.acpi_base.specs.Bytes.{le, carried, complement, put, field_at}
use Rattle.acpi_base.specs.declared.error.Error.TheVariants.{FieldWidth}
use Rattle.acpi_base.specs.Header.{header}
use Rattle.acpi_base.specs.Walk.{place_offset, place_width, Walks, ArePieces, HasSizes, named, offsets_from}
use Rattle.acpi_base.specs.declared.walk.Walk.{Walk}
use Rattle.acpi_base.proofs.Bytes.{length_le, carried_le}
use Rattle.acpi_base.proofs.Puts.{put-append, length-put}
use Rattle.acpi_base.proofs.Tables.{table_is_true, table_named, length-header}
use Rattle.acpi_base.proofs.Walks.{one_walk, piece_has_bytes}
use Rattle.acpi_core.specs.Listing.{Listing, IsListing, fixed_fields, body_of, bytes_of, start_of, size_of}
use Rattle.acpi_core.specs.Addition.{has_room}
use Rattle.acpi_core.specs.Flat.{has_space}
use Rattle.acpi_core.specs.Offset.{structure_at, offset_of}
use Rattle.acpi_core.specs.Walk.{IsWalkOf}
use Rattle.acpi_core.specs.Laws.{ListingsAreTrue, ListingsGrow, StructuresStandAtOffsets, StructuresAreAddedAtTheEnd, StructuresStay, StructuresAreTheWalk, OffsetsDiffer}
use Rattle.std.proofs.lemmas.List.Folds.{concat-append}
use Rattle.acpi_core.proofs.Flats.{length-fields, length-body, length-bytes, size_more}

pub are_true : ListingsAreTrue
are_true t is =
    let small : 36 + length (body_of t) < 2 ^ 32 = omega (arith, length-body t, is.fits, is.limit) in
    let all = table_is_true t.signature (body_of t) t.revision t.oem is.signature is.id is.table_id small in
    (all.0, all.1 ∙ length-body t)

pub keeps : StructuresStay
keeps old new later i h =
    let ts : take i new.structures ≡ take i old.structures = ap (take i) later.structures ∙ take-append-le i old.structures later.added (omega arith) in (
      omega (arith, ap length later.before, later.width, ap length later.after, ap (λ l. length (concat l)) ts),
      ap (λ a. get_or a i []) later.structures ∙ get_or_append_left old.structures later.added [] i h,
    )

pub at_the_end : StructuresAreAddedAtTheEnd
at_the_end t x =
    let front : take (length t.structures) (t.structures ++ x ∷ []) ≡ t.structures = take_at t.structures (x ∷ []) (length t.structures) refl in (
      ap (λ l. start_of t + length (concat l)) front,
      get_or_at t.structures x [] [] (length t.structures) refl,
      record { added = x ∷ []; before = refl; width = refl; after = refl; structures = refl },
    )

grows_one : (w : Walk) (xs : List (List ℕ)) (i : ℕ) → HasSizes w.sizes → ArePieces w.sizes xs → i < length xs → length (concat (take i xs)) < length (concat (take (suc i) xs))
grows_one w (x ∷ xs) zero has all h = omega (arith, length-append x [], piece_has_bytes w.sizes x has all.0)
grows_one w (x ∷ xs) (suc i) has all h =
    omega (arith, length-append x (concat (take i xs)), length-append x (concat (take (suc i) xs)), grows_one w xs i has all.1 (omega arith))
grows_one w [] i has all h = absurd (omega arith)

grows : (w : Walk) (xs : List (List ℕ)) (i j : ℕ) → HasSizes w.sizes → ArePieces w.sizes xs → i < j → j ≤ length xs → length (concat (take i xs)) < length (concat (take j xs))
grows w xs i zero has all h k = absurd (omega arith)
grows w xs i (suc j) has all h k =
    let last : length (concat (take j xs)) < length (concat (take (suc j) xs)) = grows_one w xs j has all (omega arith) in
    elim (cases_lt i j) [
      | inl before ↦ (let so_far = grows w xs i j has all before (omega arith) in omega arith)
      | inr here ↦ (let same : i ≡ j = omega arith in omega (arith, last, ap (λ n. length (concat (take n xs))) same))
    ]

pub differ : OffsetsDiffer
differ t w i j has all h k = omega (arith, grows w t.structures i j has all h (omega arith))

-- a table's bytes are a header's 36 bytes and what follows them
pub record Parts (t : Listing) : Type 0 where
  pub front : List ℕ
  pub long : length front ≡ 36
  pub is : bytes_of t ≡ front ++ body_of t

pub parts : (t : Listing) → IsListing t → Parts t
parts t is =
    let h = header t.signature (36 + length (body_of t)) t.revision t.oem in
    let c = complement (sum (put 9 (0 ∷ []) (h ++ body_of t))) ∷ [] in
    let size : length h ≡ 36 = length-header t.signature (36 + length (body_of t)) t.revision t.oem is.signature is.id is.table_id in
    record {
      front = put 9 c h;
      long = length-put 9 c h (omega (arith, size)) ∙ size;
      is = put-append 9 c h (body_of t) (omega (arith, size));
    }

-- the same up to the structures, and the structures
fixed_front : (t : Listing) (is : IsListing t) → (bytes_of t ≡ ((parts t is).front ++ fixed_fields t) ++ concat t.structures) × (length ((parts t is).front ++ fixed_fields t) ≡ start_of t)
fixed_front t is =
    let p = parts t is in
    (p.is ∙ sym (append_assoc p.front (fixed_fields t) (concat t.structures)), omega (arith, length-append p.front (fixed_fields t), p.long, length-fields t))

pub stand : StructuresStandAtOffsets
stand t i is h =
    let f = fixed_front t is in
    let front = (parts t is).front ++ fixed_fields t in
    let before = concat (take i t.structures) in
    let rest = concat (drop (i + 1) t.structures) in
    let cut : concat t.structures ≡ before ++ (structure_at t i ++ rest) =
    ap concat (sym (take-append-drop i t.structures)) ∙ concat-append (take i t.structures) (drop i t.structures) ∙ ap (λ l. before ++ concat l) (drop_more t.structures i [] h) in
    let all : bytes_of t ≡ (front ++ before) ++ (structure_at t i ++ rest) = f.0 ∙ ap (λ b. front ++ b) cut ∙ sym (append_assoc front before (structure_at t i ++ rest)) in
    (rest, ap (drop (offset_of t i)) all ∙ drop_at (front ++ before) (structure_at t i ++ rest) (offset_of t i) (omega (arith, length-append front before, f.1)))

-- ---- the walk

-- a field that stands between others
field_between : (bytes a f b : List ℕ) (offset w : ℕ) → bytes ≡ a ++ (f ++ b) → offset ≡ length a → w ≡ length f → field_at offset w bytes ≡ carried f
field_between bytes a f b offset w is at width =
    let rest : drop offset bytes ≡ f ++ b = ap (drop offset) is ∙ drop_at a (f ++ b) offset (sym at) in
    ap (λ t. carried (take w t)) rest ∙ ap carried (take_at f b w (sym width))

fits_le : (w n k : ℕ) → w ≡ k → 2 ^ (8 * k) ≡ 256 ^ k → n < 2 ^ (8 * w) → carried (le w n) ≡ n
fits_le w n k is same small =
    let below : n < 256 ^ w = subst (λ (v : ℕ). n < 256 ^ v) (sym is) (omega (arith, ap (λ (v : ℕ). 2 ^ (8 * v)) is, same)) in
    carried_le w n below

number_told : (w n : ℕ) → 1 ≤ w → (w ≡ 0) ⊎ ((w ≡ 2) ⊎ (w ≡ 4)) → (w ≡ 0) ⊎ (n < 2 ^ (8 * w)) → carried (le w n) ≡ n
number_told w n some (inl e) counted = absurd (omega arith)
number_told w n some (inr k) (inl e) = absurd (omega arith)
number_told w n some (inr (inl e)) (inr small) = fits_le w n 2 e refl small
number_told w n some (inr (inr e)) (inr small) = fits_le w n 4 e refl small

pub walked : (t : Listing) (ported : Bool) (w : Walk) → IsListing t → IsWalkOf ported w t → ArePieces w.sizes t.structures → Walks w (bytes_of t) t.structures
walked t ported w is walk each =
    let p = parts t is in
    let f = fixed_front t is in
    let n = le t.count_width (length t.structures) in
    let s = concat t.structures in
    let behind_count : bytes_of t ≡ (p.front ++ t.before) ++ (n ++ (t.after ++ s)) = p.is ∙ simp append_assoc in
    let behind_after : bytes_of t ≡ ((p.front ++ t.before) ++ n) ++ (t.after ++ s) = behind_count ∙ sym (append_assoc (p.front ++ t.before) n (t.after ++ s)) in
    let l1 : length (p.front ++ t.before) ≡ 36 + length t.before = omega (arith, length-append p.front t.before, p.long) in
    let l2 : length ((p.front ++ t.before) ++ n) ≡ 36 + length t.before + t.count_width = omega (arith, length-append (p.front ++ t.before) n, l1, length_le t.count_width (length t.structures)) in
    record {
      reaches = omega (arith, walk.start, length-bytes t is);
      joined = ap (drop w.start) f.0 ∙ drop_at ((p.front) ++ fixed_fields t) s w.start (f.1 ∙ sym walk.start);
      each = each;
      counted = λ some.
          field_between (bytes_of t) (p.front ++ t.before) n (t.after ++ s) (place_offset w.count) (place_width w.count) behind_count (walk.count_at some ∙ sym l1) (walk.count_width ∙ sym (length_le t.count_width (length t.structures)))
          ∙ number_told t.count_width (length t.structures) (omega (arith, some, walk.count_width)) is.width is.counted;
      started = λ some.
          let told = walk.told some in
          let tw = (place_width w.first) in
          let field = take tw t.after in
          let split : bytes_of t ≡ ((p.front ++ t.before) ++ n) ++ (field ++ (drop tw t.after ++ s)) =
          behind_after ∙ ap (λ z. ((p.front ++ t.before) ++ n) ++ z) (ap (λ a. a ++ s) (sym (take-append-drop tw t.after)) ∙ append_assoc field (drop tw t.after) s) in
          field_between (bytes_of t) ((p.front ++ t.before) ++ n) field (drop tw t.after ++ s) (place_offset w.first) tw split (told.0 ∙ sym l2) (sym (length-take-le tw t.after told.1))
          ∙ told.2 ∙ sym walk.start;
    }

-- what a table's signature is read as
pub signature_told : (t : Listing) → IsListing t → field_at 0 4 (bytes_of t) ≡ named t.signature
signature_told t is = table_named t.signature t.revision t.oem (body_of t) is.signature

-- where the pieces of a walk stand
pub places : (start : ℕ) (ss : List (List ℕ)) (i : ℕ) → i < length ss → slice_index (offsets_from start ss) i ≡ start + length (concat (take i ss))
places start [] i h = absurd (omega arith)
places start (s ∷ ss) zero h = omega arith
places start (s ∷ ss) (suc i) h = omega (arith, places (start + length s) ss i (omega arith), length-append s (concat (take i ss)))

pub the_walk : StructuresAreTheWalk
the_walk t ported w is walk has each =
    let walks = walked t ported w is walk each in
    (walks, λ pieces other. one_walk w (bytes_of t) pieces t.structures has other walks)

-- ---- an accepted addition

accepted_room : (b : Bool) → (if b then None else Some FieldWidth) ≡ None → b ≡ true
accepted_room true h = refl
accepted_room false h = absurd cc

room_fits : (size more limit count w : ℕ) → has_space size more limit count w ≡ true → (size + more < limit) × ((w ≡ 0) ⊎ (count + 1 < 2 ^ (8 * w)))
room_fits size more limit count zero h = (grind (arith, nat_tests, h), inl refl)
room_fits size more limit count (suc w) h = (grind (arith, nat_tests, h), inr (grind (arith, nat_tests, h)))

pub grow : ListingsGrow
grow t x is accepted =
    let room = room_fits (size_of t) (length x) t.limit (length t.structures) t.count_width (accepted_room (has_room t (length x)) accepted) in
    let more : length (t.structures ++ x ∷ []) ≡ length t.structures + 1 = length-append t.structures (x ∷ []) in
    record {
      signature = is.signature;
      id = is.id;
      table_id = is.table_id;
      width = is.width;
      limit = is.limit;
      counted = ⊎_elim (λ e. inl e) (λ small. inr (omega (arith, small, more))) room.1;
      fits = omega (arith, room.0, size_more t is x);
    }
