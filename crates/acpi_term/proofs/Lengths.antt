-- Lengths and numbers in their widths.
use Rattle.std.proofs.Common.{◌≡◌, ℕ, zero, suc, ◌+◌, ◌-◌, ◌*◌, ◌/◌, ◌%◌, ◌^◌, ◌<◌, ◌≤◌, Bool, true, false, cond, ltb, eqb, List, [], ◌∷◌, ◌++◌, length, length-append, Some, None, refl, sym, ap, subst, ◌∙◌, arith, inl, inr, ◌⊎◌}
use Rattle.std.specs.Prelude.{◌&&◌}
use Rattle.std.proofs.lemmas.Bool.{cases_lt, ltb-true, eqb-true, le-ltb, lt-ltb, eq-eqb, ne_eqb, and_parts}
use Rattle.std.proofs.lemmas.Bool.Decides.{nat_tests}
use Rattle.acpi_base.specs.Bytes.{AreBytes, le, carried}
use Rattle.acpi_base.specs.Number.{number_limit, number_bytes, number_width}
use Rattle.acpi_term.specs.Length.{value, Frames, limit, length_bytes, with_length, FrameFits, least_width, StartsWithLength}
use Rattle.acpi_base.proofs.Bytes.{length_le, bytes_le, carried_le, le_carried, carried_below}

-- ---- what a length can carry

pub limit_few : (w : ℕ) → 5 ≤ w → limit w ≡ 0
limit_few w ge = grind (arith, nat_tests)

-- what k bytes after the lead byte carry
pub long_below : (k v : ℕ) → 1 ≤ k → v < limit (suc k) → (k ≤ 3) × (v / 16 < 256 ^ k)
long_below zero v some lt = absurd (omega arith)
long_below (suc zero) v some lt = (omega arith, omega arith)
long_below (suc (suc zero)) v some lt = (omega arith, omega arith)
long_below (suc (suc (suc zero))) v some lt = (omega arith, omega arith)
long_below (suc (suc (suc (suc k)))) v some lt = absurd (omega (arith, limit_few (suc (suc (suc (suc (suc k))))) (omega arith)))

pub long_fits : (k low h : ℕ) → 1 ≤ k → k ≤ 3 → low < 16 → h < 256 ^ k → low + 16 * h < limit (suc k)
long_fits zero low h some few small below = absurd (omega arith)
long_fits (suc zero) low h some few small below = omega arith
long_fits (suc (suc zero)) low h some few small below = omega arith
long_fits (suc (suc (suc zero))) low h some few small below = omega arith
long_fits (suc (suc (suc (suc k)))) low h some few small below = absurd (omega arith)

-- the bytes of a length of more than one byte
pub length_long : (k v : ℕ) → length_bytes (suc (suc k)) v ≡ (64 * suc k + v % 16) ∷ le (suc k) (v / 16)
unfolding length_bytes
length_long k v =
    let more : eqb (suc (suc k)) 1 ≡ false = ne_eqb _ _ (λ z. omega (arith, z)) in
    let n : suc (suc k) - 1 ≡ suc k = omega arith in
    rw (more, n) refl

-- the lead byte and the bytes after it are those of the length
pub long_is : (k low h : ℕ) → 1 ≤ k → low < 16 → length_bytes (k + 1) (low + 16 * h) ≡ (64 * k + low) ∷ le k h
unfolding length_bytes
long_is k low h some small =
    let more : eqb (k + 1) 1 ≡ false = ne_eqb _ _ (λ z. omega (arith, z)) in
    let n : k + 1 - 1 ≡ k = omega arith in
    let r : (low + 16 * h) % 16 ≡ low = omega arith in
    let q : (low + 16 * h) / 16 ≡ h = omega arith in
    rw (more, n, r, q) refl

-- ---- the least widths

width_cases : (n : ℕ)
    → ((1 + n < 64) × (least_width n ≡ 1))
    ⊎ (((64 ≤ 1 + n) × (2 + n < 4096) × (least_width n ≡ 2)) ⊎ (((4096 ≤ 2 + n) × (3 + n < 1048576) × (least_width n ≡ 3)) ⊎ ((1048576 ≤ 3 + n) × (least_width n ≡ 4))))
width_cases n = elim (cases_lt (1 + n) 64) [
  | inl lt ↦ inl (lt, rw (lt-ltb (1 + n) 64 lt) refl)
  | inr ge ↦ elim (cases_lt (2 + n) 4096) [
    | inl lt ↦ inr (inl (ge, lt, rw (le-ltb (1 + n) 64 ge, lt-ltb (2 + n) 4096 lt) refl))
    | inr gt ↦ elim (cases_lt (3 + n) 1048576) [
      | inl lt ↦ inr (inr (inl (gt, lt, rw (le-ltb (1 + n) 64 ge, le-ltb (2 + n) 4096 gt, lt-ltb (3 + n) 1048576 lt) refl)))
      | inr big ↦ inr (inr (inr (big, rw (le-ltb (1 + n) 64 ge, le-ltb (2 + n) 4096 gt, le-ltb (3 + n) 1048576 big) refl)))
    ]
  ]
]

pub width_carries : (n : ℕ) → 4 + n < 2 ^ 28 → least_width n + n < limit (least_width n)
width_carries n small = elim (width_cases n) [
  | inl a ↦ rw a.1 (omega (arith, a.0))
  | inr x ↦ elim x [
    | inl a ↦ rw a.2 (omega (arith, a.1))
    | inr y ↦ elim y [
      | inl a ↦ rw a.2 (omega (arith, a.1))
      | inr a ↦ rw a.1 small
    ]
  ]
]

pub width_holds : (n : ℕ) → n < 2 ^ 28 → n < limit (least_width n)
width_holds n small = elim (width_cases n) [
  | inl a ↦ rw a.1 (omega (arith, a.0))
  | inr x ↦ elim x [
    | inl a ↦ rw a.2 (omega (arith, a.1))
    | inr y ↦ elim y [
      | inl a ↦ rw a.2 (omega (arith, a.1))
      | inr a ↦ rw a.1 small
    ]
  ]
]

pub width_some : (n : ℕ) → (1 ≤ least_width n) × (least_width n ≤ 4)
width_some n = elim (width_cases n) [
  | inl a ↦ rw a.1 (omega arith, omega arith)
  | inr x ↦ elim x [
    | inl a ↦ rw a.2 (omega arith, omega arith)
    | inr y ↦ elim y [
      | inl a ↦ rw a.2 (omega arith, omega arith)
      | inr a ↦ rw a.1 (omega arith, omega arith)
    ]
  ]
]

-- ---- lengths as they are written

pub starts_one : (w v a b c : ℕ) → w ≡ 1 → StartsWithLength w v (v ∷ a ∷ b ∷ c ∷ [])
unfolding length_bytes
starts_one w v a b c is = rw is (record { within = omega arith; is = refl })

pub starts_two : (w v b c : ℕ) → w ≡ 2 → v < limit w → StartsWithLength w v ((64 + v % 16) ∷ v / 16 ∷ b ∷ c ∷ [])
starts_two w v b c is lt =
    let small : v < 4096 = rw is at lt in
    let a : v / 16 % 256 ≡ v / 16 = omega arith in
    rw is (record { within = omega arith; is = sym (length_long 0 v ∙ rw a refl) })

pub starts_three : (w v c : ℕ) → w ≡ 3 → v < limit w → StartsWithLength w v ((128 + v % 16) ∷ v / 16 % 256 ∷ v / 4096 ∷ c ∷ [])
starts_three w v c is lt =
    let small : v < 1048576 = rw is at lt in
    let a : v / 16 / 256 % 256 ≡ v / 4096 = omega arith in
    rw is (record { within = omega arith; is = sym (length_long 1 v ∙ rw a refl) })

pub starts_four : (w v : ℕ) → w ≡ 4 → v < limit w → StartsWithLength w v ((192 + v % 16) ∷ v / 16 % 256 ∷ v / 4096 % 256 ∷ v / 1048576 ∷ [])
starts_four w v is lt =
    let small : v < 268435456 = rw is at lt in
    let a : v / 16 / 256 % 256 ≡ v / 4096 % 256 = omega arith in
    let b : v / 16 / 65536 % 256 ≡ v / 1048576 = omega arith in
    rw is (record { within = omega arith; is = sym (length_long 2 v ∙ rw (a, b) refl) })

-- a width that isn't 1, 2 or 3 and carries something is 4
pub width_last : (w v : ℕ) → (w ≡ 1 → ⊥) → (w ≡ 2 → ⊥) → (w ≡ 3 → ⊥) → v < limit w → w ≡ 4
width_last w v a b c lt = grind (arith, nat_tests)

-- ---- what bytes carry

-- what the bytes of a length are
pub record Means (w v : ℕ) (p : List ℕ) : Type 0 where
  pub is : value p ≡ Some v
  pub wide : length p ≡ w
  pub bytes : AreBytes p

value_is : (b c v : ℕ) (more : List ℕ) → b / 64 ≡ length (c ∷ more) → b % 64 < 16 → b % 64 + 16 * carried (c ∷ more) ≡ v → value (b ∷ c ∷ more) ≡ Some v
value_is b c v more count low is =
    let same : eqb (b / 64) (length (c ∷ more)) ≡ true = eq-eqb _ _ count in
    let small : ltb (b % 64) 16 ≡ true = lt-ltb _ _ low in
    rw (same, small) (ap Some is)

-- the same of bytes that are not known to be two
value_of : (b v : ℕ) (bytes : List ℕ) → 1 ≤ length bytes → b / 64 ≡ length bytes → b % 64 < 16 → b % 64 + 16 * carried bytes ≡ v → value (b ∷ bytes) ≡ Some v
value_of b v [] some count low is = absurd (omega arith)
value_of b v (c ∷ more) some count low is = value_is b c v more count low is

long_means : (k v : ℕ) → k ≤ 2 → v / 16 < 256 ^ suc k → value ((64 * suc k + v % 16) ∷ le (suc k) (v / 16)) ≡ Some v
long_means k v few below =
    let q : (64 * suc k + v % 16) / 64 ≡ suc k = omega arith in
    let r : (64 * suc k + v % 16) % 64 ≡ v % 16 = omega arith in
    let len = length_le (suc k) (v / 16) in
    let c = carried_le (suc k) (v / 16) below in
    let back : (64 * suc k + v % 16) % 64 + 16 * carried (le (suc k) (v / 16)) ≡ v = omega (arith, r, c) in
    value_of (64 * suc k + v % 16) v (le (suc k) (v / 16)) (omega (arith, len)) (q ∙ sym len) (omega (arith, r)) back

pub length_means : (w v : ℕ) → v < limit w → Means w v (length_bytes w v)
unfolding length_bytes
length_means zero v lt = absurd (omega arith)
length_means (suc zero) v lt = record { is = rw (lt-ltb v 64 lt) refl; wide = refl; bytes = (omega arith, tt) }
length_means (suc (suc k)) v lt =
    let l = long_below (suc k) v (omega arith) lt in
    let few : k ≤ 2 = omega (arith, l.0) in
    subst (Means (suc (suc k)) v) (sym (length_long k v)) (record {
      is = long_means k v few l.1;
      wide = ap suc (length_le (suc k) (v / 16));
      bytes = (omega arith, bytes_le (suc k) (v / 16));
    })

some_is : (x y : ℕ) → Some x ≡ Some y → x ≡ y
some_is x y e = cc

given : (b : Bool) (x v : ℕ) → cond b (Some x) None ≡ Some v → (b ≡ true) × (x ≡ v)
given true x v e = (refl, some_is x v e)
given false x v e = absurd cc

pub means_length : (p : List ℕ) (v : ℕ) → AreBytes p → value p ≡ Some v → (v < limit (length p)) × (length_bytes (length p) v ≡ p)
unfolding length_bytes
means_length [] v fits e = absurd cc
means_length (b ∷ []) v fits e =
    let g = given (ltb b 64) b v e in
    let lt : b < 64 = ltb-true b 64 g.0 in
    (omega (arith, g.1), ap (λ x. x ∷ []) (sym g.1))
means_length (b ∷ c ∷ more) v fits e =
    let g = given (eqb (b / 64) (length (c ∷ more)) && ltb (b % 64) 16) (b % 64 + 16 * carried (c ∷ more)) v e in
    let t = and_parts (eqb (b / 64) (length (c ∷ more))) (ltb (b % 64) 16) g.0 in
    let k : b / 64 ≡ length (c ∷ more) = eqb-true (b / 64) (length (c ∷ more)) t.0 in
    let small : b % 64 < 16 = ltb-true (b % 64) 16 t.1 in
    let lt : b < 256 = fits.0 in
    let below = carried_below (c ∷ more) fits.1 in
    let l = long_fits (length (c ∷ more)) (b % 64) (carried (c ∷ more)) (omega arith) (omega (arith, k, lt)) small below in
    let back : 64 * length (c ∷ more) + b % 64 ≡ b = omega (arith, k) in
    let w : length (c ∷ more) + 1 ≡ suc (length (c ∷ more)) = omega arith in
    let is = long_is (length (c ∷ more)) (b % 64) (carried (c ∷ more)) (omega arith) small in (
      subst (λ x. x < limit (suc (length (c ∷ more)))) g.1 l,
      ap (length_bytes (suc (length (c ∷ more)))) (sym g.1) ∙ ap (λ n. length_bytes n (b % 64 + 16 * carried (c ∷ more))) (sym w) ∙ is ∙ ap (λ x. x ∷ le (length (c ∷ more)) (carried (c ∷ more))) back ∙ ap (λ l. b ∷ l) (le_carried (c ∷ more) fits.1),
    )

-- ---- frames

pub frames_spelled : (p content : List ℕ) → Frames p content → FrameFits (length p) content × (with_length (length p) content ≡ p ++ content)
frames_spelled p content f =
    let t = means_length p (length p + length content) f.bytes f.counts in
    (t.0, ap (λ l. l ++ content) t.1)

pub frames_every : (w : ℕ) (content : List ℕ) → FrameFits w content → (p : List ℕ) × Frames p content × (length p ≡ w) × (with_length w content ≡ p ++ content)
frames_every w content fits =
    let t = length_means w (w + length content) fits in
    (length_bytes w (w + length content), record { bytes = t.bytes; counts = t.is ∙ ap (λ k. Some (k + length content)) (sym t.wide) }, t.wide, refl)

-- which widths carry so much
carrying : (n w : ℕ) → w + n < limit w → ((w ≡ 1) × (1 + n < 64)) ⊎ (((w ≡ 2) × (2 + n < 4096)) ⊎ (((w ≡ 3) × (3 + n < 1048576)) ⊎ ((w ≡ 4) × (4 + n < 268435456))))
carrying n zero lt = absurd (omega arith)
carrying n (suc zero) lt = inl (refl, lt)
carrying n (suc (suc zero)) lt = inr (inl (refl, lt))
carrying n (suc (suc (suc zero))) lt = inr (inr (inl (refl, lt)))
carrying n (suc (suc (suc (suc zero)))) lt = inr (inr (inr (refl, lt)))
carrying n (suc (suc (suc (suc (suc w))))) lt = absurd (omega (arith, limit_few (suc (suc (suc (suc (suc w))))) (omega arith)))

pub width_least : (n w : ℕ) → w + n < limit w → least_width n ≤ w
width_least n w lt = grind (arith, nat_tests, width_cases n, carrying n w lt)

pub width_bounds : (n w : ℕ) → w + n < limit w → 4 + n < 2 ^ 28
width_bounds n w lt = grind (arith, nat_tests, carrying n w lt)

pub frames_least : (p content : List ℕ) → Frames p content → (least_width (length content) ≤ length p) × (4 + length content < 2 ^ 28)
frames_least p content f =
    let t = frames_spelled p content f in
    (width_least (length content) (length p) t.0, width_bounds (length content) (length p) t.0)

pub frame_ends : (w : ℕ) (content : List ℕ) → FrameFits w content → value (length_bytes w (w + length content)) ≡ Some (length (with_length w content))
frame_ends w content fits =
    let t = length_means w (w + length content) fits in
    let size : w + length content ≡ length (with_length w content) = omega (arith, t.wide, length-append (length_bytes w (w + length content)) content) in
    t.is ∙ ap (λ (n : ℕ). Some n) size

-- ---- field entries

pub width_four : (bits : ℕ) → 2 ^ 28 ≤ 4 + bits → least_width bits ≡ 4
width_four bits big = grind (arith, nat_tests, width_cases bits)

pub limit_top : (bits w : ℕ) → bits < limit w → bits < 2 ^ 28
limit_top bits w lt = grind (arith, nat_tests)

-- ---- numbers

length_number : (v w : ℕ) → length (number_bytes v w) ≡ suc w
length_number v zero = refl
length_number v (suc w) =
    let wide : eqb (suc w) 0 ≡ false = ne_eqb _ _ (λ z. omega (arith, z)) in
    rw wide (ap suc (length_le (suc w) v))

pub number_carries : (v : ℕ) → v < 2 ^ 64 → v < number_limit (number_width v)
number_carries v lt = grind (arith, nat_tests)

pub number_least : (v w : ℕ) → v < number_limit w → number_width v ≤ w
number_least v w lt = grind (arith, nat_tests)

pub number_top : (v w : ℕ) → v < number_limit w → v < 2 ^ 64
number_top v w lt = grind (arith, nat_tests)

pub number_shortest : (v w : ℕ) → v < number_limit w → length (number_bytes v (number_width v)) ≤ length (number_bytes v w)
number_shortest v w lt = omega (arith, length_number v (number_width v), length_number v w, number_least v w lt)
