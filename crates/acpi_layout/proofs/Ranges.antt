-- The range of an address.
use Rattle.std.proofs.Common.{◌≡◌, ℕ, zero, suc, ◌+◌, ◌<◌, ◌≤◌, List, [], ◌∷◌, length, drop, get_or, refl, true, false, arith, subst}
use Rattle.acpi_layout.specs.declared.range.Range.{Range}
use Rattle.acpi_layout.specs.Addresses.{part, part_of, holds, memory_of}

-- a range that holds the address, and isn't the last
pub asked : (ranges : List Range) (i address : ℕ) (d e : Range) → i + 1 < length ranges → holds (get_or ranges i e) address ≡ true
    → memory_of (drop i ranges) address ≡ part_of (get_or ranges i d)
asked [] i address d e inside is = absurd (omega (arith, inside))
asked (r ∷ []) i address d e inside is = absurd (omega (arith, inside))
asked (r ∷ s ∷ ranges) zero address d e inside is = rw is refl
asked (r ∷ s ∷ ranges) (suc i) address d e inside is = asked (s ∷ ranges) i address d e (omega (arith, inside)) is

-- one that doesn't
passed_over : (ranges : List Range) (i address : ℕ) (e : Range) → i + 1 < length ranges → holds (get_or ranges i e) address ≡ false
    → memory_of (drop (suc i) ranges) address ≡ memory_of (drop i ranges) address
passed_over [] i address e inside none = absurd (omega (arith, inside))
passed_over (r ∷ []) i address e inside none = absurd (omega (arith, inside))
passed_over (r ∷ s ∷ ranges) zero address e inside none = rw none refl
passed_over (r ∷ s ∷ ranges) (suc i) address e inside none = passed_over (s ∷ ranges) i address e (omega (arith, inside)) none

pub passed : (ranges : List Range) (i address : ℕ) (e : Range) → i + 1 < length ranges → holds (get_or ranges i e) address ≡ false
    → memory_of (drop (i + 1) ranges) address ≡ memory_of (drop i ranges) address
passed ranges i address e inside none =
    let next : suc i ≡ i + 1 = omega arith in
    subst (λ n. memory_of (drop n ranges) address ≡ memory_of (drop i ranges) address) next (passed_over ranges i address e inside none)

-- the last one
pub last : (ranges : List Range) (i address : ℕ) (d : Range) → i < length ranges → length ranges ≤ i + 1
    → memory_of (drop i ranges) address ≡ part_of (get_or ranges i d)
last [] i address d inside end = absurd (omega (arith, inside))
last (r ∷ []) zero address d inside end = refl
last (r ∷ []) (suc i) address d inside end = absurd (omega (arith, inside))
last (r ∷ s ∷ ranges) zero address d inside end = absurd (omega (arith, end))
last (r ∷ s ∷ ranges) (suc i) address d inside end = last (s ∷ ranges) i address d (omega (arith, inside)) (omega (arith, end))

-- there is none
pub none_left : (ranges : List Range) (i address : ℕ) → length ranges ≤ i → memory_of (drop i ranges) address ≡ part 0 []
none_left [] zero address end = refl
none_left [] (suc i) address end = refl
none_left (r ∷ ranges) zero address end = absurd (omega (arith, end))
none_left (r ∷ ranges) (suc i) address end = none_left ranges i address (omega (arith, end))
