-- The name at a place of a list of terms.
use Rattle.std.proofs.Common.{◌≡◌, ℕ, zero, suc, ◌-◌, ◌<◌, ◌≤◌, true, List, [], ◌∷◌, ◌++◌, length, get_or, None, refl, sym, ap, ◌∙◌, arith}
use Rattle.std.specs.Prelude.{nat_lt}
use Rattle.std.proofs.lemmas.Bool.Decides.{nat_tests}
use Rattle.acpi_term.specs.View.{view, views}
use Rattle.acpi_term.specs.declared.term.Term.{Term}
use Rattle.acpi_terms_text.specs.Objects.{name_of, name_at}

-- an index below a length
pub below : (n m : ℕ) → true ≡ nat_lt n m → n < m
below n m is = grind (arith, nat_tests, is)

pub at_one : (n : ℕ) (ts : List Term) (t : Term) → n < length ts → t ≡ get_or ts n t → name_at n (views ts) ≡ name_of (view t).0
at_one n [] t inside is = absurd (omega (arith, inside))
at_one zero (u ∷ ts) t inside is = ap (λ (x : Term). name_of (view x).0) (sym is)
at_one (suc n) (u ∷ ts) t inside is = at_one n ts t (omega (arith, inside)) is

pub at_none : (n : ℕ) (ts : List Term) → length ts ≤ n → name_at n (views ts) ≡ None
at_none n [] past = refl
at_none zero (u ∷ ts) past = absurd (omega (arith, past))
at_none (suc n) (u ∷ ts) past = at_none n ts (omega (arith, past))

-- in the first of two lists
pub at_first : (n : ℕ) (ts us : List Term) → n < length ts → name_at n (views (ts ++ us)) ≡ name_at n (views ts)
at_first n [] us inside = absurd (omega (arith, inside))
at_first zero (t ∷ ts) us inside = refl
at_first (suc n) (t ∷ ts) us inside = at_first n ts us (omega (arith, inside))

-- in the second one
pub at_second : (n : ℕ) (ts us : List Term) → length ts ≤ n → name_at n (views (ts ++ us)) ≡ name_at (n - length ts) (views us)
at_second n [] us past = let all : n ≡ n - 0 = omega arith in ap (λ (k : ℕ). name_at k (views us)) all
at_second zero (t ∷ ts) us past = absurd (omega (arith, past))
at_second (suc n) (t ∷ ts) us past =
    let same : n - length ts ≡ suc n - suc (length ts) = omega arith in
    at_second n ts us (omega (arith, past)) ∙ ap (λ (k : ℕ). name_at k (views us)) same
