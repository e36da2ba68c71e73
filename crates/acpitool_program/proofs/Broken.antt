-- Structures that stand one after another, of which one may be broken.
use Rattle.std.proofs.Common.{◌≡◌, ℕ, zero, suc, ◌+◌, ◌-◌, ◌≤◌, List, [], ◌∷◌, length, drop, Some, ap, ◌∙◌, arith}
use Rattle.acpi_base.specs.declared.walk.Sizes.{Sizes}
use Rattle.acpi_text.specs.Size.{front_size}
use Rattle.acpitool_program.specs.Structures.{broken_or, broken_at}

-- after one structure more
pub one_more : (n at size : ℕ) (sizes : Sizes) (rest : List ℕ) → 1 ≤ n → 1 ≤ length rest → front_size sizes rest ≡ Some size
    → broken_at n sizes at rest ≡ broken_at (n - 1) sizes (at + size) (drop size rest)
one_more zero at size sizes rest some bytes is = absurd (omega (arith, some))
one_more (suc n) at size sizes [] some bytes is = absurd (omega (arith, bytes))
one_more (suc n) at size sizes (b ∷ rest) some bytes is =
    ap (λ front. broken_or front (λ k. broken_at n sizes (at + k) (drop k (b ∷ rest))) at) is
    ∙ ap (λ k. broken_at k sizes (at + size) (drop size (b ∷ rest))) (let e : n ≡ suc n - 1 = omega arith in e)
