-- Numbers of this many bytes stay below their limits.
use Rattle.std.proofs.Common.{◌≡◌, ℕ, zero, suc, ◌+◌, ◌-◌, ◌*◌, ◌^◌, ◌<◌, ◌≤◌, refl, arith}
use Rattle.std.proofs.Math.Nat.{pow-le-pow_right}

-- a byte more than a number of k - 1 bytes
pub high_bound : (k b h : ℕ) → 1 ≤ k → k ≤ 8 → b < 256 → h < 256 ^ (k - 1) → (b + 256 * h < 256 ^ k) × (b + 256 * h < 2 ^ 64)
high_bound zero b h some few byte lt = absurd (omega arith)
high_bound (suc k) b h some few byte lt =
    let same : suc k - 1 ≡ k = omega arith in
    let low : h < 256 ^ k = rw same at lt in
    let p : 256 ^ suc k ≡ 256 * 256 ^ k = grind arith in
    let most : 256 ^ suc k ≤ 256 ^ 8 = pow-le-pow_right {n = 256} (omega arith) few in
    let last : 256 ^ 8 ≡ 2 ^ 64 = refl in
    (omega (arith, p, low), omega (arith, p, low, most, last))

-- a number of three bytes at most
pub long_small : (k h : ℕ) → k ≤ 3 → h < 256 ^ k → h < 2 ^ 24
long_small k h few below =
    let most : 256 ^ k ≤ 256 ^ 3 = pow-le-pow_right {n = 256} (omega arith) few in
    let last : 256 ^ 3 ≡ 2 ^ 24 = refl in
    omega (arith, most, last, below)
