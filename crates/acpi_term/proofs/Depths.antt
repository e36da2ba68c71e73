-- How deep the parts of a list of terms are.
use Rattle.std.proofs.Common.{◌≡◌, ℕ, zero, suc, ◌<◌, ◌≤◌, List, [], ◌∷◌, ◌++◌, length, get_or, arith}
use Rattle.acpi_term.specs.declared.term.Term.{Term}
use Rattle.acpi_term.specs.Tree.{depth}
use Rattle.acpi_term.specs.View.{view, views, single}

pub first_shallow : (a b : List Term) → depth (views a) ≤ depth (views (a ++ b))
first_shallow [] b = omega arith
first_shallow (t ∷ a) b = omega (arith, first_shallow a b)

pub others_shallow : (a b : List Term) → depth (views b) ≤ depth (views (a ++ b))
others_shallow [] b = omega arith
others_shallow (t ∷ a) b = omega (arith, others_shallow a b)

-- an element is no deeper than its list
pub element_shallow : (ts : List Term) (i : ℕ) (t : Term) → i < length ts → t ≡ get_or ts i t → depth (single (view t)) ≤ depth (views ts)
element_shallow [] i t inside is = absurd (omega arith)
element_shallow (s ∷ ts) zero t inside is = rw is (omega arith)
element_shallow (s ∷ ts) (suc i) t inside is = let deeper = element_shallow ts i t (omega arith) is in omega (arith, deeper)
