-- Flat tables.
use Rattle.std.proofs.Common.{◌≡◌, ℕ, ◌+◌, ◌-◌, ◌*◌, ◌%◌, ◌^◌, ◌<◌, ◌≤◌, List, [], ◌∷◌, ◌++◌, length, replicate, true, refl, sym, ap, subst, ◌∙◌, arith, lit≤, append_assoc, length-append, ⊎_elim, inl, inr}
use Rattle.std.specs.Prelude.{sum, ◌⊎◌, Option, Some, None, if◌then◌else◌}
use Rattle.std.specs.List.{concat}
use Rattle.std.proofs.lemmas.List.{append-nil, length-replicate, replicate-append-replicate}
use Rattle.std.proofs.lemmas.List.Sums.{sum_by-append}
use Rattle.std.proofs.lemmas.Bool.Decides.{nat_tests}
use Rattle.std.proofs.Math.Nat.{min-eq_left}
use Rattle.acpi_base.specs.Bytes.{le, put, complement}
use Rattle.acpi_base.specs.Header.{header}
use Rattle.acpi_base.specs.Table.{with_checksum}
use Rattle.acpi_base.proofs.Bytes.{length_le}
use Rattle.acpi_base.proofs.Puts.{put_in, put-put, put_comm, length-put, put-append}
use Rattle.acpi_base.proofs.Tables.{length-header, length-with_checksum}
use Rattle.acpi_core.specs.Listing.{Listing, IsListing, fixed_fields, body_of, bytes_of, size_of, with_structure}
use Rattle.acpi_core.specs.Flat.{IsFlat, has_space, number_up_to, patched, Settles}
use Rattle.acpi_base.specs.declared.error.Error.{Error}
use Rattle.acpi_base.specs.declared.error.Error.TheVariants.{FieldWidth}
use Rattle.acpi_core.specs.Addition.{has_room, refusal_of}
use Rattle.acpi_base.proofs.Walks.{concat_push}
use Rattle.acpi_core.proofs.Patches.{header_patched}

-- a table's bytes with a checksum of 0
abbrev plain : Listing → List ℕ
plain t = header t.signature (36 + length (body_of t)) t.revision t.oem ++ body_of t

pub length-fields : (t : Listing) → length (fixed_fields t) ≡ length t.before + t.count_width + length t.after
length-fields t =
    let n = le t.count_width (length t.structures) in
    omega (arith, length-append t.before (n ++ t.after), length-append n t.after, length_le t.count_width (length t.structures))

pub length-body : (t : Listing) → 36 + length (body_of t) ≡ size_of t
length-body t = omega (arith, length-append (fixed_fields t) (concat t.structures), length-fields t)

length-plain : (t : Listing) → IsListing t → length (plain t) ≡ size_of t
length-plain t is =
    let h = header t.signature (36 + length (body_of t)) t.revision t.oem in
    omega (arith, length-append h (body_of t), length-header t.signature (36 + length (body_of t)) t.revision t.oem is.signature is.id is.table_id, length-body t)

pub length-bytes : (t : Listing) → IsListing t → length (bytes_of t) ≡ size_of t
length-bytes t is =
    let size = length-plain t is in
    length-with_checksum (plain t) (omega (arith, size)) ∙ size

-- ---- one structure more

module _ (t : Listing) (is : IsListing t) (x : List ℕ) where
  more : Listing
  more = with_structure t x

  pub size_more : size_of (with_structure t x) ≡ size_of t + length x
  size_more = omega (arith, ap length (concat_push t.structures x), length-append (concat t.structures) x)

  -- the bytes after the number of structures
  tail : t.after ++ concat (t.structures ++ x ∷ []) ≡ (t.after ++ concat t.structures) ++ x
  tail = ap (λ c. t.after ++ c) (concat_push t.structures x) ∙ sym (append_assoc t.after (concat t.structures) x)

  -- the length and the number patched into the bytes with the structure after them
  patched_plain : (size' count' : ℕ) → size' ≡ size_of t + length x → le t.count_width count' ≡ le t.count_width (length t.structures + 1)
      → put (36 + length t.before) (le t.count_width count') (put 4 (le 4 size') (plain t ++ x)) ≡ plain (with_structure t x)
  patched_plain size' count' told counts =
      let n = le t.count_width (length t.structures) in
      let n' = le t.count_width count' in
      let rest = (t.after ++ concat t.structures) ++ x in
      let old = header t.signature (36 + length (body_of t)) t.revision t.oem in
      let new = header t.signature size' t.revision t.oem in
      let apart : plain t ++ x ≡ old ++ (t.before ++ (n ++ rest)) = simp append_assoc in
      let lengths : put 4 (le 4 size') (plain t ++ x) ≡ new ++ (t.before ++ (n ++ rest)) =
      ap (put 4 (le 4 size')) apart ∙ header_patched t.signature (36 + length (body_of t)) size' t.revision t.oem (t.before ++ (n ++ rest)) is.signature in
      let grouped : new ++ (t.before ++ (n ++ rest)) ≡ (new ++ t.before) ++ (n ++ rest) = sym (append_assoc new t.before (n ++ rest)) in
      let at : length (new ++ t.before) ≡ 36 + length t.before =
      omega (arith, length-append new t.before, length-header t.signature size' t.revision t.oem is.signature is.id is.table_id) in
      let same : length n ≡ length n' = length_le t.count_width (length t.structures) ∙ sym (length_le t.count_width count') in
      let whole : size' ≡ 36 + length (body_of (with_structure t x)) = told ∙ sym size_more ∙ sym (length-body (with_structure t x)) in
      let counted : length (t.structures ++ x ∷ []) ≡ length t.structures + 1 = length-append t.structures (x ∷ []) in
      let number : n' ≡ le t.count_width (length (t.structures ++ x ∷ [])) = counts ∙ ap (le t.count_width) (sym counted) in
      ap (put (36 + length t.before) n') (lengths ∙ grouped) ∙ put_in (new ++ t.before) n rest n' (36 + length t.before) at same
      ∙ append_assoc new t.before (n' ++ rest)
      ∙ ap (λ c. new ++ (t.before ++ (n' ++ c))) (sym tail)
      ∙ ap (λ k. new ++ (t.before ++ (k ++ (t.after ++ concat (t.structures ++ x ∷ []))))) number
      ∙ ap (λ k. header t.signature k t.revision t.oem ++ (t.before ++ (le t.count_width (length (t.structures ++ x ∷ [])) ++ (t.after ++ concat (t.structures ++ x ∷ []))))) whole
      ∙ simp append_assoc

-- ---- sums and checksums

-- the bytes of a table with their checksum cleared
cleared : (t : Listing) → IsListing t → put 9 (0 ∷ []) (bytes_of t) ≡ put 9 (0 ∷ []) (plain t)
cleared t is = put-put 9 (0 ∷ []) (complement (sum (put 9 (0 ∷ []) (plain t))) ∷ []) (plain t) refl (omega (arith, length-plain t is))

pub small_number : (n : ℕ) → n ≤ 4294967295 → number_up_to n ≡ n
small_number n small = min-eq_left small

-- the number of structures that a field of two bytes or four has is counted as it is
narrow : (w n : ℕ) → (w ≡ 2) ⊎ (w ≡ 4) → n < 2 ^ (8 * w) → n ≤ 4294967295
narrow w n (inl e) fits = omega (arith, subst (λ (v : ℕ). n < 2 ^ (8 * v)) e fits)
narrow w n (inr e) fits = omega (arith, subst (λ (v : ℕ). n < 2 ^ (8 * v)) e fits)

pub told_number : (w n count : ℕ) → (w ≡ 0) ⊎ ((w ≡ 2) ⊎ (w ≡ 4)) → (w ≡ 0) ⊎ (n < 2 ^ (8 * w)) → count ≡ number_up_to n → (w ≡ 0) ⊎ (count ≡ n)
told_number w n count width fits told =
    ⊎_elim (λ e. inl e) (λ k. ⊎_elim (λ e. inl e) (λ f. inr (told ∙ small_number n (narrow w n k f))) fits) width

-- one more than a number up to a limit is counted up to this limit
next_number : (n count count' : ℕ) → count ≡ number_up_to n → count' ≡ number_up_to (count + 1) → count' ≡ number_up_to (n + 1)
next_number n count count' is next = grind (arith, nat_tests, is, next)

counts_on : (w count n k : ℕ) → (w ≡ 0) ⊎ (count ≡ k) → (w ≡ 0) ⊎ ((n ≡ count + 1) × (n < 2 ^ (8 * w))) → (w ≡ 0) ⊎ (n ≡ k + 1)
counts_on w count n k h next = ⊎_elim (λ e. inl e) (λ p. ⊎_elim (λ e. inl e) (λ e. inr (omega (arith, p.0, e))) h) next

count_fits : (w count n k m : ℕ) → m ≡ k + 1 → (w ≡ 0) ⊎ (count ≡ k) → (w ≡ 0) ⊎ ((n ≡ count + 1) × (n < 2 ^ (8 * w))) → (w ≡ 0) ⊎ (m < 2 ^ (8 * w))
count_fits w count n k m more h next = ⊎_elim (λ e. inl e) (λ p. ⊎_elim (λ e. inl e) (λ e. inr (omega (arith, p.0, p.1, e, more))) h) next

le_counts : (w n k : ℕ) → (w ≡ 0) ⊎ (n ≡ k) → le w n ≡ le w k
le_counts w n k h = ⊎_elim (λ e. rw e refl) (λ e. ap (le w) e) h

below_limit : (size more limit count w : ℕ) → has_space size more limit count w ≡ true → size + more < limit
below_limit size more limit count w h = grind (arith, nat_tests, h)

module _ (t : Listing) (fixed body : List ℕ) (running count at w limit : ℕ) (flat : IsFlat t fixed body running count at w limit) (x : List ℕ) where
  size_flat : length fixed + length body ≡ size_of t
  size_flat = omega (arith, flat.fixed_size, ap length flat.joined)

  pub number_flat : (w ≡ 0) ⊎ (count ≡ length t.structures)
  number_flat =
      told_number w (length t.structures) count (subst (λ (v : ℕ). (v ≡ 0) ⊎ ((v ≡ 2) ⊎ (v ≡ 4))) (sym flat.same_width) flat.is.width)
      (subst (λ (v : ℕ). (v ≡ 0) ⊎ (length t.structures < 2 ^ (8 * v))) (sym flat.same_width) flat.is.counted) flat.counted

  -- what settling leaves of all bytes
  pub flat_added : (size' count' running' : ℕ) (settled body' : List ℕ) (lists' : Listing) → lists' ≡ with_structure t x → body' ≡ body ++ x
      → size' ≡ length fixed + length body + length x → has_space (length fixed + length body) (length x) limit count w ≡ true
      → (w ≡ 0) ⊎ ((count' ≡ count + 1) × (count' < 2 ^ (8 * w))) → count' ≡ number_up_to (count + 1) → Settles fixed running at w size' count' x settled running'
      → IsFlat lists' settled body' running' count' at w limit
  flat_added size' count' running' settled body' lists' lists grown told space counts next settles =
      let t' = with_structure t x in
      let number : (w ≡ 0) ⊎ (count' ≡ length t.structures + 1) = counts_on w count count' (length t.structures) number_flat counts in
      let numbers : le t.count_width count' ≡ le t.count_width (length t.structures + 1) = rw (← flat.same_width) (le_counts w count' (length t.structures + 1) number) in
      let size_is : size' ≡ size_of t + length x = omega (arith, told, size_flat) in
      let fits : (w ≡ 0) ⊎ (length t'.structures < 2 ^ (8 * w)) = count_fits w count count' (length t.structures) (length t'.structures) (length-append t.structures (x ∷ [])) number_flat counts in
      let small : size_of t' < t'.limit = omega (arith, size_more t flat.is x, size_is, below_limit (length fixed + length body) (length x) limit count w space, flat.same_limit, told) in
      let is' : IsListing t' = record { signature = flat.is.signature; id = flat.is.id; table_id = flat.is.table_id; width = flat.is.width; limit = flat.is.limit; counted = subst (λ (v : ℕ). (v ≡ 0) ⊎ (length t'.structures < 2 ^ (8 * v))) flat.same_width fits; fits = small } in
      let long : 36 + length t.before + w + length t.after ≡ length fixed = omega (arith, flat.fixed_size, flat.same_width) in
      let nw : length (le w count') ≡ w = length_le w count' in
      let f0 = put 9 (0 ∷ []) fixed in
      let f1 = put 4 (le 4 size') f0 in
      let f2 = patched at w size' count' fixed in
      let l0 : length f0 ≡ length fixed = length-put 9 (0 ∷ []) fixed (omega arith) in
      let l1 : length f1 ≡ length fixed = length-put 4 (le 4 size') f0 (omega (arith, l0, length_le 4 size')) ∙ l0 in
      let l2 : length f2 ≡ length fixed = length-put at (le w count') f1 (omega (arith, l1, nw, flat.place)) ∙ l1 in
      -- all bytes with the structure after them
      let whole = plain t ++ x in
      let lw : length whole ≡ size_of t + length x = omega (arith, length-append (plain t) x, length-plain t flat.is) in
      let lf : length f0 + length (body ++ x) ≡ length whole = omega (arith, l0, lw, size_flat, length-append body x) in
      let e0 : f0 ++ (body ++ x) ≡ put 9 (0 ∷ []) whole =
      sym (append_assoc f0 body x)
      ∙ ap (λ z. z ++ x) (sym (put-append 9 (0 ∷ []) fixed body (omega arith)) ∙ ap (put 9 (0 ∷ [])) flat.bytes ∙ cleared t flat.is)
      ∙ sym (put-append 9 (0 ∷ []) (plain t) x (omega (arith, length-plain t flat.is))) in
      let e1 : f1 ++ (body ++ x) ≡ put 9 (0 ∷ []) (put 4 (le 4 size') whole) =
      sym (put-append 4 (le 4 size') f0 (body ++ x) (omega (arith, l0, length_le 4 size'))) ∙ ap (put 4 (le 4 size')) e0
      ∙ put_comm 4 9 (le 4 size') (0 ∷ []) whole (omega (arith, length_le 4 size')) (omega (arith, lw)) in
      let l4 : length (put 4 (le 4 size') whole) ≡ length whole = length-put 4 (le 4 size') whole (omega (arith, lw, length_le 4 size')) in
      let e2 : f2 ++ (body ++ x) ≡ put 9 (0 ∷ []) (plain t') =
      sym (put-append at (le w count') f1 (body ++ x) (omega (arith, l1, nw, flat.place))) ∙ ap (put at (le w count')) e1
      ∙ sym (put_comm 9 at (0 ∷ []) (le w count') (put 4 (le 4 size') whole) (omega (arith, flat.place)) (omega (arith, l4, lw, size_flat, nw, flat.place)))
      ∙ ap (λ (a : ℕ). put 9 (0 ∷ []) (put a (le w count') (put 4 (le 4 size') whole))) flat.place
      ∙ ap (λ (v : ℕ). put 9 (0 ∷ []) (put (36 + length t.before) (le v count') (put 4 (le 4 size') whole))) flat.same_width
      ∙ ap (put 9 (0 ∷ [])) (patched_plain t flat.is x size' count' size_is numbers) in
      let c = (256 - running') % 256 in
      let lp : length (plain t') ≡ size_of t' = length-plain t' is' in
      let e3 : settled ++ body' ≡ put 9 (c ∷ []) (plain t') =
      ap (λ z. z ++ body') settles.is ∙ ap (λ z. put 9 (c ∷ []) f2 ++ z) grown ∙ sym (put-append 9 (c ∷ []) f2 (body ++ x) (omega (arith, l2)))
      ∙ ap (put 9 (c ∷ [])) e2 ∙ put-put 9 (c ∷ []) (0 ∷ []) (plain t') refl (omega (arith, lp)) in
      let before : running ≡ (sum f0 + sum body) % 256 = flat.sums ∙ ap (λ z. sum z % 256) (put-append 9 (0 ∷ []) fixed body (omega arith)) ∙ ap (λ n. n % 256) (sum_by-append (λ v. v) f0 body) in
      let cleared_sum : sum (put 9 (0 ∷ []) (plain t')) ≡ sum f2 + (sum body + sum x) =
      sym (ap sum e2) ∙ sum_by-append (λ v. v) f2 (body ++ x) ∙ ap (λ n. sum f2 + n) (sum_by-append (λ v. v) body x) in
      let running_is : running' ≡ sum (put 9 (0 ∷ []) (plain t')) % 256 = omega (arith, before, cleared_sum, settles.sums, settles.range) in
      let checksum_is : c ≡ complement (sum (put 9 (0 ∷ []) (plain t'))) = ap (λ n. (256 - n) % 256) running_is in
      let bytes_are : settled ++ body' ≡ bytes_of t' = e3 ∙ ap (λ k. put 9 (k ∷ []) (plain t')) checksum_is in
      let flat' : IsFlat t' settled body' running' count' at w limit = record {
        is = is';
        fixed_size = ap length settles.is ∙ length-put 9 (c ∷ []) f2 (omega (arith, l2)) ∙ l2 ∙ flat.fixed_size;
        bytes = bytes_are;
        joined = grown ∙ ap (λ z. z ++ x) flat.joined ∙ sym (concat_push t.structures x);
        place = flat.place;
        same_width = flat.same_width;
        same_limit = flat.same_limit;
        counted = next_number (length t.structures) count count' flat.counted next ∙ ap number_up_to (sym (length-append t.structures (x ∷ [])));
        sums = running_is ∙ ap (λ z. sum z % 256) (sym (ap (put 9 (0 ∷ [])) bytes_are ∙ cleared t' is'));
      } in
      rw lists flat'

-- ---- a table without structures

-- what is written over zeros, part by part
pub made_of : (h b a f0 f1 f2 f3 : List ℕ) (w n : ℕ) → length h ≡ 36 → 36 + length b + w + length a ≡ n → f0 ≡ replicate n 0
    → f1 ≡ put 0 h f0 → f2 ≡ put 36 b f1 → f3 ≡ put (n - length a) a f2 → f3 ≡ h ++ (b ++ (replicate w 0 ++ a))
made_of h b a f0 f1 f2 f3 w n long size is0 is1 is2 is3 =
    let z : ℕ → List ℕ = λ k. replicate k 0 in
    let lz : (k : ℕ) → length (z k) ≡ k = λ k. length-replicate k 0 in
    let split : (i j : ℕ) → z (i + j) ≡ z i ++ z j = λ i j. sym (replicate-append-replicate i j 0) in
    let total : n ≡ 36 + (length b + (w + length a)) = omega arith in
    let parts : f0 ≡ z 36 ++ (z (length b) ++ (z w ++ z (length a))) =
    is0 ∙ ap z total ∙ split 36 (length b + (w + length a)) ∙ ap (λ t. z 36 ++ t) (split (length b) (w + length a) ∙ ap (λ t. z (length b) ++ t) (split w (length a))) in
    let e1 : f1 ≡ h ++ (z (length b) ++ (z w ++ z (length a))) =
    is1 ∙ ap (put 0 h) parts ∙ put_in [] (z 36) (z (length b) ++ (z w ++ z (length a))) h 0 refl (lz 36 ∙ sym long) in
    let e2 : f2 ≡ h ++ (b ++ (z w ++ z (length a))) =
    is2 ∙ ap (put 36 b) e1 ∙ put_in h (z (length b)) (z w ++ z (length a)) b 36 long (lz (length b)) in
    let front = h ++ (b ++ z w) in
    let lf : length front ≡ n - length a = omega (arith, length-append h (b ++ z w), length-append b (z w), lz w) in
    let regroup : (t : List ℕ) → h ++ (b ++ (z w ++ t)) ≡ front ++ t = λ t. simp append_assoc in
    let ends : z (length a) ++ [] ≡ z (length a) = append-nil (z (length a)) in
    is3 ∙ ap (put (n - length a) a) (e2 ∙ regroup (z (length a)) ∙ ap (λ t. front ++ t) (sym ends)) ∙ put_in front (z (length a)) [] a (n - length a) lf (lz (length a))
    ∙ ap (λ t. front ++ t) (append-nil a) ∙ sym (regroup a)

no_number : (w : ℕ) → (w ≡ 0) ⊎ ((w ≡ 2) ⊎ (w ≡ 4)) → le w 0 ≡ replicate w 0
no_number w h = ⊎_elim (λ e. rw e refl) (λ k. ⊎_elim (λ e. rw e refl) (λ e. rw e refl) k) h

fits_none : (w n k : ℕ) → w ≡ k → n ≡ 0 → 1 ≤ 2 ^ (8 * k) → n < 2 ^ (8 * w)
fits_none w n k is none some = subst (λ (v : ℕ). n < 2 ^ (8 * v)) (sym is) (omega arith)

none_counted : (w n : ℕ) → n ≡ 0 → (w ≡ 0) ⊎ ((w ≡ 2) ⊎ (w ≡ 4)) → (w ≡ 0) ⊎ (n < 2 ^ (8 * w))
none_counted w n none (inl e) = inl e
none_counted w n none (inr (inl e)) = inr (fits_none w n 2 e none (lit≤ tt))
none_counted w n none (inr (inr e)) = inr (fits_none w n 4 e none (lit≤ tt))

-- the parts of a new table
pub flat_new : (t : Listing) (fixed body made : List ℕ) (running limit n : ℕ) → length t.signature ≡ 4 → length t.oem.id ≡ 6 → length t.oem.table_id ≡ 8
    → (t.count_width ≡ 0) ⊎ ((t.count_width ≡ 2) ⊎ (t.count_width ≡ 4)) → t.structures ≡ [] → 36 + length t.before + t.count_width + length t.after ≡ n
    → n < t.limit → t.limit ≤ 2 ^ 32 → made ≡ header t.signature n t.revision t.oem ++ (t.before ++ (replicate t.count_width 0 ++ t.after))
    → fixed ≡ with_checksum made → running ≡ sum (put 9 (0 ∷ []) fixed) % 256 → body ≡ []
    → IsFlat t fixed body running 0 (36 + length t.before) t.count_width t.limit
flat_new t fixed body made running limit n four six eight width none size small low is sealed sums empty =
    let lists : concat t.structures ≡ [] = ap concat none in
    let size_is : size_of t ≡ n = omega (arith, ap length lists, size) in
    let is' : IsListing t = record { signature = four; id = six; table_id = eight; width = width; limit = low; counted = none_counted t.count_width (length t.structures) (ap length none) width; fits = omega (arith, size_is) } in
    let number : le t.count_width (length t.structures) ≡ replicate t.count_width 0 = ap (λ l. le t.count_width (length l)) none ∙ no_number t.count_width width in
    let body_is : body_of t ≡ t.before ++ (replicate t.count_width 0 ++ t.after) =
    ap (λ c. fixed_fields t ++ c) lists ∙ append-nil (fixed_fields t) ∙ ap (λ k. t.before ++ (k ++ t.after)) number in
    let told : n ≡ 36 + length (body_of t) = sym (length-body t ∙ size_is) in
    let plain_is : made ≡ plain t =
    is ∙ ap (λ k. header t.signature k t.revision t.oem ++ (t.before ++ (replicate t.count_width 0 ++ t.after))) told
    ∙ ap (λ b. header t.signature (36 + length (body_of t)) t.revision t.oem ++ b) (sym body_is) in
    let fixed_is : fixed ≡ bytes_of t = sealed ∙ ap with_checksum plain_is in
    record {
      is = is';
      fixed_size = ap length fixed_is ∙ length-bytes t is' ∙ size_is ∙ sym size;
      bytes = ap (λ b. fixed ++ b) empty ∙ append-nil fixed ∙ fixed_is;
      joined = empty ∙ sym lists;
      place = refl;
      same_width = refl;
      same_limit = refl;
      counted = sym (ap (λ (s : List (List ℕ)). number_up_to (length s)) none);
      sums = sums ∙ ap (λ b. sum (put 9 (0 ∷ []) b) % 256) (sym (ap (λ b. fixed ++ b) empty ∙ append-nil fixed));
    }

-- a structure for which there is room isn't refused
same_space : (size n limit count count' w : ℕ) → (w ≡ 0) ⊎ (count ≡ count') → has_space size n limit count w ≡ has_space size n limit count' w
same_space size n limit count count' w h =
    ⊎_elim (λ e. grind (arith, nat_tests, e)) (λ e. ap (λ k. has_space size n limit k w) e) h

pub room_is : (t : Listing) (fixed body : List ℕ) (running count at w limit : ℕ) → IsFlat t fixed body running count at w limit → (n : ℕ)
    → has_space (length fixed + length body) n limit count w ≡ has_room t n
room_is t fixed body running count at w limit flat n =
    let size = size_flat t fixed body running count at w limit flat [] in
    same_space (length fixed + length body) n limit count (length t.structures) w (number_flat t fixed body running count at w limit flat [])
    ∙ ap (λ k. has_space k n limit (length t.structures) w) size ∙ ap (λ k. has_space (size_of t) n k (length t.structures) w) flat.same_limit
    ∙ ap (λ k. has_space (size_of t) n t.limit (length t.structures) k) flat.same_width

pub is_accepted : (t : Listing) (end : Option Error) (n : ℕ) → end ≡ None → has_room t n ≡ true → refusal_of t end n ≡ None
is_accepted t end n whole room = ap (λ e. refusal_of t e n) whole ∙ ap (λ b. if b then None else Some FieldWidth) room
