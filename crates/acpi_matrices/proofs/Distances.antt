-- Distances of localities.
use Rattle.std.proofs.Common.{◌≡◌, ℕ, ◌+◌, ◌-◌, ◌*◌, ◌%◌, ◌<◌, ◌≤◌, ◌^◌, List, [], ◌∷◌, ◌++◌, length, replicate, true, refl, sym, ap, subst, ◌∙◌, arith, append_assoc, length-append, ⊎_elim}
use Rattle.std.specs.Prelude.{sum, codes}
use Rattle.std.proofs.lemmas.Bool.{ltb-true, and_parts, cases_order}
use Rattle.std.proofs.lemmas.List.{append-nil, length-replicate}
use Rattle.std.proofs.lemmas.List.Sums.{sum_by-append}
use Rattle.std.proofs.lemmas.Nat.{mul-add-lt, mul-le}
use Rattle.std.proofs.Math.Nat.{mul_comm}
use Rattle.acpi_base.specs.Walk.{ArePiecesOf}
use Rattle.acpi_base.specs.declared.oem.Oem.{Oem}
use Rattle.acpi_base.specs.Bytes.{put, complement, field_at}
use Rattle.acpi_base.specs.Header.{header}
use Rattle.acpi_base.specs.Table.{with_checksum}
use Rattle.acpi_base.proofs.Bytes.{carried_le}
use Rattle.acpi_base.proofs.Puts.{put-put, length-put, put-append}
use Rattle.acpi_base.proofs.Tables.{length-header, table_is_true, table_without_pieces}
use Rattle.acpi_matrices.specs.Slit.{Distances, slit_bytes, localities_bytes, slit, place_of, distance, with_distance, IsMatrix, has_cell, DistancesAreTrue, DistancesAreSet, IsSymmetric, oem_of, parts_of, front_of, IsParts}
use Rattle.acpi_matrices.proofs.Fields.{field_put, field_before, field_after, field_behind, field_filled, same_place}

-- ---- places

pub place_within : (n a b : ℕ) → a < n → b < n → a + n * b < n * n
place_within n a b column row = omega (arith, mul-add-lt b n a n row column, mul_comm b n)

one_place : (n a b c d : ℕ) → a < n → c < n → c + n * d ≡ a + n * b → (d ≡ b) × (c ≡ a)
one_place n a b c d column column' same = same_place n d c b a column' column (omega (arith, same, mul_comm d n, mul_comm b n))

-- one cell written
written : (p v : ℕ) (x : List ℕ) → p < length x → field_at p 1 (put p (v ∷ []) x) ≡ v
written p v x within = field_put p 1 (v ∷ []) x refl (omega arith) ∙ omega arith

others : (p q v : ℕ) (x : List ℕ) → p < length x → (q ≡ p → ⊥) → field_at q 1 (put p (v ∷ []) x) ≡ field_at q 1 x
others p q v x within differ =
    ⊎_elim (λ e. absurd (differ e))
    (λ k. ⊎_elim (λ lt. field_before q 1 p (v ∷ []) x (omega arith) (omega arith)) (λ lt. field_after q 1 p (v ∷ []) x (omega arith) (omega arith)) k) (cases_order q p)

-- ---- a distance that is set

module _ (t : Distances) (a b v : ℕ) (is : IsMatrix t) (column : a < t.localities) (row : b < t.localities) where
  abbrev n : ℕ
  n = t.localities

  abbrev p : ℕ
  p = place_of n a b

  abbrev q : ℕ
  q = place_of n b a

  abbrev once : List ℕ
  once = put p (v ∷ []) t.cells

  abbrev twice : List ℕ
  twice = put q (v ∷ []) once

  p_within : p < length t.cells
  p_within = omega (arith, place_within n a b column row, is.square)

  q_within : q < length t.cells
  q_within = omega (arith, place_within n b a row column, is.square)

  length-once : length once ≡ length t.cells
  length-once = length-put p (v ∷ []) t.cells (omega (arith, p_within))

  length-twice : length twice ≡ length t.cells
  length-twice = length-put q (v ∷ []) once (omega (arith, q_within, length-once)) ∙ length-once

  at_q : field_at q 1 twice ≡ v
  at_q = written q v once (omega (arith, q_within, length-once))

  at_p : field_at p 1 twice ≡ v
  at_p = ⊎_elim (λ (e : p ≡ q). ap (λ k. field_at k 1 twice) e ∙ at_q)
      (λ k. others q p v once (omega (arith, q_within, length-once)) (λ e. ⊎_elim (λ lt. omega (arith, lt, e)) (λ lt. omega (arith, lt, e)) k) ∙ written p v t.cells p_within)
      (cases_order p q)

  elsewhere : (k : ℕ) → (k ≡ p → ⊥) → (k ≡ q → ⊥) → field_at k 1 twice ≡ field_at k 1 t.cells
  elsewhere k not_p not_q = others q k v once (omega (arith, q_within, length-once)) not_q ∙ others p k v t.cells p_within not_p

  -- the mirror of a place
  mirror_p : (c d : ℕ) → c < n → place_of n c d ≡ p → place_of n d c ≡ q
  mirror_p c d lt e = let is = one_place n a b c d column lt e in λ i. place_of n (is.0 i) (is.1 i)

  mirror_q : (c d : ℕ) → c < n → place_of n c d ≡ q → place_of n d c ≡ p
  mirror_q c d lt e = let is = one_place n b a c d row lt e in λ i. place_of n (is.0 i) (is.1 i)

  either_way : (c d : ℕ) → c < n → d < n → field_at (place_of n c d) 1 twice ≡ field_at (place_of n d c) 1 twice
  either_way c d lt lt' =
      let k = place_of n c d in
      let m = place_of n d c in
      ⊎_elim
      (λ (e : k ≡ p). ap (λ x. field_at x 1 twice) e ∙ at_p ∙ sym (ap (λ x. field_at x 1 twice) (mirror_p c d lt e) ∙ at_q))
      (λ away. ⊎_elim
      (λ (e : k ≡ q). ap (λ x. field_at x 1 twice) e ∙ at_q ∙ sym (ap (λ x. field_at x 1 twice) (mirror_q c d lt e) ∙ at_p))
      (λ away'.
      let not_p : k ≡ p → ⊥ = λ e. ⊎_elim (λ l. omega (arith, l, e)) (λ l. omega (arith, l, e)) away in
      let not_q : k ≡ q → ⊥ = λ e. ⊎_elim (λ l. omega (arith, l, e)) (λ l. omega (arith, l, e)) away' in
      elsewhere k not_p not_q ∙ is.symmetric c d lt lt' ∙ sym (elsewhere m (λ e. not_q (mirror_p d c lt' e)) (λ e. not_p (mirror_q d c lt' e))))
      (cases_order k q))
      (cases_order k p)

  pub matrix : IsMatrix (with_distance t a b v)
  matrix = record { id = is.id; table_id = is.table_id; square = length-twice ∙ is.square; fits = is.fits; symmetric = either_way }

  pub set_is : IsMatrix (with_distance t a b v)
      × (distance (with_distance t a b v) a b ≡ v)
      × (distance (with_distance t a b v) b a ≡ v)
      × ((c d : ℕ) → has_cell t c d ≡ true → ((c ≡ a) × (d ≡ b) → ⊥) → ((c ≡ b) × (d ≡ a) → ⊥) → distance (with_distance t a b v) c d ≡ distance t c d)
  set_is = (
    matrix,
    at_p,
    at_q,
    λ c d has not_ab not_ba.
        let lt = ltb-true _ _ (and_parts _ _ has).0 in
        elsewhere (place_of n c d)
        (λ e. let is = one_place n a b c d column lt e in not_ab (is.1, is.0))
        (λ e. let is = one_place n b a c d row lt e in not_ba (is.1, is.0)),
  )

pub are_set : DistancesAreSet
are_set t a b value is has = let both = and_parts _ _ has in set_is t a b value is (ltb-true _ _ both.0) (ltb-true _ _ both.1)

-- ---- bytes

most : (n : ℕ) → n < 65536 → n * n ≤ 65535 * 65535
most n small = mul-le n n 65535 65535 (omega arith) (omega arith)

length-told : (n : ℕ) → length (localities_bytes n) ≡ 8
length-told n = refl

length-inside : (t : Distances) → IsMatrix t → length (localities_bytes t.localities ++ t.cells) ≡ 8 + t.localities * t.localities
length-inside t is = omega (arith, length-append (localities_bytes t.localities) t.cells, length-told t.localities, is.square)

pub are_true : DistancesAreTrue
are_true t is =
    let size = length-inside t is in
    let all = table_is_true (codes "SLIT") (localities_bytes t.localities ++ t.cells) 1 t.oem refl is.id is.table_id (omega (arith, size, most t.localities is.fits)) in
    (all.0, all.1 ∙ omega (arith, size))

-- what stands before the cells
pub length-front : (t : Distances) → IsMatrix t → length (front_of t) ≡ 44
length-front t is =
    let h = header (codes "SLIT") (36 + length (localities_bytes t.localities ++ t.cells)) 1 t.oem in
    omega (arith, length-append h (localities_bytes t.localities), length-header (codes "SLIT") (36 + length (localities_bytes t.localities ++ t.cells)) 1 t.oem refl is.id is.table_id, length-told t.localities)

pub are_symmetric : (t : Distances) → IsMatrix t → IsSymmetric t
are_symmetric t is =
    let h = header (codes "SLIT") (36 + length (localities_bytes t.localities ++ t.cells)) 1 t.oem in
    let y = h ++ (localities_bytes t.localities ++ t.cells) in
    let size : length y ≡ 44 + t.localities * t.localities =
    omega (arith, length-append h (localities_bytes t.localities ++ t.cells), length-header (codes "SLIT") (36 + length (localities_bytes t.localities ++ t.cells)) 1 t.oem refl is.id is.table_id, length-inside t is) in
    let cell : (k : ℕ) → field_at (44 + k) 1 (slit_bytes t) ≡ field_at k 1 t.cells =
    λ k. field_after (44 + k) 1 9 (complement (sum (put 9 (0 ∷ []) y)) ∷ []) y (omega arith) (omega (arith, size))
    ∙ ap (field_at (44 + k) 1) (sym (append_assoc h (localities_bytes t.localities) t.cells)) ∙ field_behind 44 k 1 (front_of t) t.cells (length-front t is) in
    record {
      cells = λ a b has. cell (place_of t.localities a b);
      mirrored = λ a b has.
          let both = and_parts _ _ has in
          cell (place_of t.localities a b) ∙ is.symmetric a b (ltb-true _ _ both.0) (ltb-true _ _ both.1) ∙ sym (cell (place_of t.localities b a));
    }

-- ---- in parts

-- the checksum is 0 in the header
plain_front : (t : Distances) (rest : List ℕ) → put 9 (0 ∷ []) (front_of t ++ rest) ≡ front_of t ++ rest
unfolding put
plain_front t rest = refl

pub parts_bytes : (fixed cells : List ℕ) (n running : ℕ) → IsParts fixed n cells running → fixed ++ cells ≡ slit_bytes (parts_of fixed n cells)
parts_bytes fixed cells n running parts =
    let t = parts_of fixed n cells in
    let f = front_of t in
    let size = length-front t parts.is in
    let s = (256 - running) % 256 in
    let h = header (codes "SLIT") (36 + length (localities_bytes n ++ cells)) 1 t.oem in
    let y = h ++ (localities_bytes n ++ cells) in
    let whole : f ++ cells ≡ y = append_assoc h (localities_bytes n) cells in
    let plain : put 9 (0 ∷ []) y ≡ f ++ cells = ap (put 9 (0 ∷ [])) (sym whole) ∙ plain_front t cells in
    let same : s ≡ complement (sum (put 9 (0 ∷ []) y)) = omega (arith, parts.sums, ap sum plain) in
    ap (λ x. x ++ cells) parts.front ∙ sym (put-append 9 (s ∷ []) f cells (omega (arith, size))) ∙ ap (put 9 (s ∷ [])) whole ∙ ap (λ k. put 9 (k ∷ []) y) same

-- whose table it is doesn't depend on the checksum
oem_kept : (s : ℕ) (x : List ℕ) → 10 ≤ length x → oem_of (put 9 (s ∷ []) x) ≡ oem_of x
unfolding put
oem_kept s (x0 ∷ x1 ∷ x2 ∷ x3 ∷ x4 ∷ x5 ∷ x6 ∷ x7 ∷ x8 ∷ x9 ∷ r) h = refl
oem_kept s x h = absurd (omega arith)

power : 256 ^ 4 ≡ 2 ^ 32
power = refl

oem_told : (id table_id rest : List ℕ) (size revision : ℕ) → length id ≡ 6 → length table_id ≡ 8 → revision < 2 ^ 32
    → oem_of (header (codes "SLIT") size 1 (record { id = id; table_id = table_id; revision = revision }) ++ rest) ≡ record { id = id; table_id = table_id; revision = revision }
oem_told (a ∷ b ∷ c ∷ d ∷ e ∷ f ∷ []) (g ∷ h ∷ j ∷ k ∷ l ∷ m ∷ o ∷ s ∷ []) rest size revision six eight small =
    λ x. record {
      id = a ∷ b ∷ c ∷ d ∷ e ∷ f ∷ [];
      table_id = g ∷ h ∷ j ∷ k ∷ l ∷ m ∷ o ∷ s ∷ [];
      revision = carried_le 4 revision (omega (arith, small, power)) x;
    }
oem_told id table_id rest size revision six eight small = absurd (omega arith)

-- a new table
pub parts_new : (oem : Oem) (n r0 r : ℕ) (size : ℕ) (cells head made sealed fixed : List ℕ)
    → length oem.id ≡ 6 → length oem.table_id ≡ 8 → oem.revision < 2 ^ 32 → n < 65536 → cells ≡ replicate (n * n) 10
    → head ≡ header (codes "SLIT") size 1 oem → size ≡ 44 + n * n → made ≡ head ++ localities_bytes n
    → sealed ≡ with_checksum made → r0 ≡ sum (put 9 (0 ∷ []) sealed) % 256 → r ≡ (r0 + sum cells) % 256 → fixed ≡ put 9 ((256 - r) % 256 ∷ []) sealed
    → IsParts fixed n cells r × (parts_of fixed n cells ≡ slit oem n)
parts_new oem n r0 r size cells head made sealed fixed six eight small few filled is_head is_size is_made is_sealed is_r0 is_r is_fixed =
    let t = slit oem n in
    let wide : length t.cells ≡ n * n = length-replicate (n * n) 10 in
    let inside : 36 + length (localities_bytes n ++ t.cells) ≡ size = omega (arith, length-append (localities_bytes n) t.cells, length-told n, wide, is_size) in
    let front : made ≡ front_of t = is_made ∙ ap (λ h. h ++ localities_bytes n) is_head ∙ ap (λ k. header (codes "SLIT") k 1 oem ++ localities_bytes n) (sym inside) in
    let is_matrix : IsMatrix t = record {
      id = six;
      table_id = eight;
      square = wide;
      fits = few;
      symmetric = λ a b column row.
          field_filled (place_of n a b) 1 (n * n) 10 (omega (arith, place_within n a b column row))
          ∙ sym (field_filled (place_of n b a) 1 (n * n) 10 (omega (arith, place_within n b a row column)));
    } in
    let long : length made ≡ 44 = ap length front ∙ length-front t is_matrix in
    let k = complement (sum (put 9 (0 ∷ []) made)) in
    let s = (256 - r) % 256 in
    let over : fixed ≡ put 9 (s ∷ []) (front_of t) =
    is_fixed ∙ ap (put 9 (s ∷ [])) is_sealed ∙ put-put 9 (s ∷ []) (k ∷ []) made refl (omega (arith, long)) ∙ ap (put 9 (s ∷ [])) front in
    let oems : oem_of fixed ≡ oem =
    ap oem_of over ∙ oem_kept s (front_of t) (omega (arith, length-front t is_matrix)) ∙ oem_told oem.id oem.table_id (localities_bytes n) (36 + length (localities_bytes n ++ t.cells)) oem.revision six eight small in
    let same : parts_of fixed n cells ≡ t = λ i. record { oem = oems i; localities = n; cells = filled i } in
    let cleared : put 9 (0 ∷ []) sealed ≡ front_of t ++ [] =
    ap (put 9 (0 ∷ [])) is_sealed ∙ put-put 9 (0 ∷ []) (k ∷ []) made refl (omega (arith, long)) ∙ ap (put 9 (0 ∷ [])) front ∙ plain_nil t in
    let sums : r ≡ sum (front_of t ++ t.cells) % 256 =
    omega (arith, is_r, is_r0, ap sum cleared, sum_by-append (λ v. v) (front_of t) [], ap sum filled, sum_by-append (λ v. v) (front_of t) t.cells) in
    let parts : IsParts fixed n cells r = record {
      is = subst IsMatrix (sym same) is_matrix;
      front = over ∙ ap (λ d. put 9 (s ∷ []) (front_of d)) (sym same);
      sums = sums ∙ ap (λ d. sum (front_of d ++ d.cells) % 256) (sym same);
    } in
    (parts, same)
  where
    plain_nil : (t : Distances) → put 9 (0 ∷ []) (front_of t) ≡ front_of t ++ []
    plain_nil t = append_empty (front_of t) ∙ plain_front t []
      where
        append_empty : (x : List ℕ) → put 9 (0 ∷ []) x ≡ put 9 (0 ∷ []) (x ++ [])
        append_empty x = ap (put 9 (0 ∷ [])) (sym (append-nil x))

-- a table whose distance was set
pub parts_set : (fixed fixed' cells cells' : List ℕ) (n r r' a b v : ℕ) → IsParts fixed n cells r → a < n → b < n
    → cells' ≡ put (place_of n b a) (v ∷ []) (put (place_of n a b) (v ∷ []) cells)
    → (r' + sum cells) % 256 ≡ (r + sum cells') % 256 → r' < 256 → fixed' ≡ put 9 ((256 - r') % 256 ∷ []) fixed
    → IsParts fixed' n cells' r' × (parts_of fixed' n cells' ≡ with_distance (parts_of fixed n cells) a b v)
parts_set fixed fixed' cells cells' n r r' a b v parts column row is_cells step small is_fixed =
    let t = parts_of fixed n cells in
    let t' = with_distance t a b v in
    let f = front_of t in
    let is_matrix : IsMatrix t' = matrix t a b v parts.is column row in
    let same_size : length cells' ≡ length cells = ap length is_cells ∙ is_matrix.square ∙ sym parts.is.square in
    let s = (256 - r) % 256 in
    let s' = (256 - r') % 256 in
    let long : length f ≡ 44 = length-front t parts.is in
    let over : fixed' ≡ put 9 (s' ∷ []) f = is_fixed ∙ ap (put 9 (s' ∷ [])) parts.front ∙ put-put 9 (s' ∷ []) (s ∷ []) f refl (omega (arith, long)) in
    let oems : oem_of fixed' ≡ oem_of fixed = ap oem_of is_fixed ∙ oem_kept s' fixed (omega (arith, ap length parts.front, length-put 9 (s ∷ []) f (omega (arith, long)), long)) in
    let same : parts_of fixed' n cells' ≡ t' = λ i. record { oem = oems i; localities = n; cells = is_cells i } in
    let told : length (localities_bytes n ++ cells') ≡ length (localities_bytes n ++ cells) = omega (arith, length-append (localities_bytes n) cells', length-append (localities_bytes n) cells, same_size) in
    let front : f ≡ front_of t' = ap (λ k. header (codes "SLIT") (36 + k) 1 t.oem ++ localities_bytes n) (sym told ∙ ap (λ c. length (localities_bytes n ++ c)) is_cells) in
    let sums : r' ≡ sum (front_of t' ++ t'.cells) % 256 =
    omega (arith, step, small, parts.sums, sum_by-append (λ v. v) f cells, sum_by-append (λ v. v) (front_of t') t'.cells, ap sum front, ap sum is_cells) in
    let parts' : IsParts fixed' n cells' r' = record {
      is = subst IsMatrix (sym same) is_matrix;
      front = over ∙ ap (put 9 (s' ∷ [])) front ∙ ap (λ d. put 9 (s' ∷ []) (front_of d)) (sym same);
      sums = sums ∙ ap (λ d. sum (front_of d ++ d.cells) % 256) (sym same);
    } in
    (parts', same)

-- a cell that is its own mirror
pub own_mirror : (n a b v : ℕ) (x : List ℕ) → a ≡ b → place_of n a b < length x → put (place_of n a b) (v ∷ []) x ≡ put (place_of n b a) (v ∷ []) (put (place_of n a b) (v ∷ []) x)
own_mirror n a b v x same within =
    let mirror : place_of n b a ≡ place_of n a b = λ i. place_of n (sym same i) (same i) in
    sym (ap (λ k. put k (v ∷ []) (put (place_of n a b) (v ∷ []) x)) mirror ∙ put-put (place_of n a b) (v ∷ []) (v ∷ []) x refl (omega (arith, within)))

pub slit_without_pieces : (t : Distances) → ArePiecesOf (slit_bytes t) []
slit_without_pieces t = table_without_pieces (codes "SLIT") 1 t.oem (localities_bytes t.localities ++ t.cells) refl refl
