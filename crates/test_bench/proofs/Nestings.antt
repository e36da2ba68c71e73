-- Terms that nest.
use Rattle.std.proofs.Common.{◌≡◌, ℕ, zero, suc, List, [], ◌∷◌, ◌++◌, ap}
use Rattle.acpi_term.specs.Tree.{end, number}
use Rattle.acpi_term.specs.declared.term.Term.{Term}
use Rattle.acpi_term.specs.View.{view, views, listed}
use Rattle.test_bench.specs.Nesting.{numbers}

-- one number more, after the others
pub one_more : (xs : List Term) (n : ℕ) (x : Term) → view x ≡ (number 0, 0, end) → views xs ≡ numbers n → views (xs ++ x ∷ []) ≡ numbers (suc n)
one_more [] zero x is same = ap (λ p. listed (p ∷ [])) is
one_more [] (suc n) x is same = absurd cc
one_more (y ∷ xs) zero x is same = absurd cc
one_more (y ∷ xs) (suc n) x is same =
    let rest : views xs ≡ numbers n = cc in
    let more = one_more xs n x is rest in
    cc
