-- Bytes, and numbers as bytes.
use Rattle.std.proofs.Common.{◌≡◌, ℕ, zero, suc, ◌+◌, ◌*◌, ◌/◌, ◌%◌, ◌^◌, ◌<◌, List, [], ◌∷◌, ◌++◌, length, take, drop, refl, sym, ap, subst, ◌∙◌, arith}
use Rattle.std.specs.Int.{bytes_low_first, byte_at}
use Rattle.std.proofs.Math.Nat.{div-one, div-div-eq-div-mul}
use Rattle.std.specs.Prelude.{slice_index}
use Rattle.acpi_base.specs.Bytes.{AreBytes, le}
use Rattle.acpi_base.specs.Bytes.{carried}

-- ---- bytes

pub bytes_each : (bytes : List ℕ) → ((i : ℕ) → slice_index bytes i < 256) → AreBytes bytes
bytes_each [] f = tt
bytes_each (b ∷ bytes) f = (f 0, bytes_each bytes (λ i. f (suc i)))

pub bytes_after : (s rest : List ℕ) → AreBytes (s ++ rest) → AreBytes rest
bytes_after [] rest f = f
bytes_after (b ∷ s) rest f = bytes_after s rest f.1

pub bytes_before : (s rest : List ℕ) → AreBytes (s ++ rest) → AreBytes s
bytes_before [] rest f = tt
bytes_before (b ∷ s) rest f = (f.0, bytes_before s rest f.1)

pub bytes_both : (s rest : List ℕ) → AreBytes s → AreBytes rest → AreBytes (s ++ rest)
bytes_both [] rest f g = g
bytes_both (b ∷ s) rest f g = (f.0, bytes_both s rest f.1 g)

pub bytes_take : (n : ℕ) (bytes : List ℕ) → AreBytes bytes → AreBytes (take n bytes)
bytes_take zero bytes f = tt
bytes_take (suc n) [] f = tt
bytes_take (suc n) (b ∷ bytes) f = (f.0, bytes_take n bytes f.1)

pub bytes_drop : (n : ℕ) (bytes : List ℕ) → AreBytes bytes → AreBytes (drop n bytes)
bytes_drop zero bytes f = f
bytes_drop (suc n) [] f = tt
bytes_drop (suc n) (b ∷ bytes) f = bytes_drop n bytes f.1

-- ---- numbers as bytes, lowest first

byte_pow : (i n : ℕ) → byte_at i n ≡ n / 256 ^ i % 256
byte_pow zero n = ap (λ (k : ℕ). k % 256) (sym (div-one n))
byte_pow (suc i) n = refl

byte_later : (i n : ℕ) → byte_at (suc i) n ≡ byte_at i (n / 256)
byte_later i n =
    let p : 256 ^ suc i ≡ 256 * 256 ^ i = grind arith in
    ap (λ (k : ℕ). n / k % 256) p ∙ ap (λ (k : ℕ). k % 256) (sym (div-div-eq-div-mul n 256 (256 ^ i))) ∙ sym (byte_pow i (n / 256))

later : (i k n : ℕ) → bytes_low_first (suc i) k n ≡ bytes_low_first i k (n / 256)
later i zero n = refl
later i (suc k) n = let a = byte_later i n in let b = later (suc i) k n in cc

-- the lowest byte, and then those of the rest of the number
pub le_step : (k n : ℕ) → le (suc k) n ≡ n % 256 ∷ le k (n / 256)
le_step k n = ap (λ (l : List ℕ). n % 256 ∷ l) (later 0 k n)

pub length_le : (k n : ℕ) → length (le k n) ≡ k
length_le zero n = refl
length_le (suc k) n = ap length (le_step k n) ∙ ap suc (length_le k (n / 256))

pub bytes_le : (k n : ℕ) → AreBytes (le k n)
bytes_le zero n = tt
bytes_le (suc k) n = subst AreBytes (sym (le_step k n)) (omega arith, bytes_le k (n / 256))

pub carried_le : (k n : ℕ) → n < 256 ^ k → carried (le k n) ≡ n
carried_le zero n lt = omega arith
carried_le (suc k) n lt =
    let p : 256 ^ suc k ≡ 256 * 256 ^ k = grind arith in
    let q : n / 256 < 256 ^ k = omega (arith, p) in
    let back : n % 256 + 256 * (n / 256) ≡ n = omega arith in
    ap carried (le_step k n) ∙ rw (carried_le k (n / 256) q) back

pub le_carried : (bytes : List ℕ) → AreBytes bytes → le (length bytes) (carried bytes) ≡ bytes
le_carried [] f = refl
le_carried (b ∷ bytes) f =
    let lt : b < 256 = f.0 in
    let r : (b + 256 * carried bytes) % 256 ≡ b = omega arith in
    let q : (b + 256 * carried bytes) / 256 ≡ carried bytes = omega arith in
    le_step (length bytes) (b + 256 * carried bytes) ∙ rw (r, q, le_carried bytes f.1) refl

pub carried_below : (bytes : List ℕ) → AreBytes bytes → carried bytes < 256 ^ length bytes
carried_below [] f = omega arith
carried_below (b ∷ bytes) f =
    let lt : b < 256 = f.0 in
    let p : 256 ^ suc (length bytes) ≡ 256 * 256 ^ length bytes = grind arith in
    omega (arith, p, carried_below bytes f.1)
