-- Signatures.
use Rattle.std.proofs.Common.{◌≡◌, ℕ, List, [], ◌∷◌, length, get_or, refl, arith}
use Rattle.acpi_base.specs.Bytes.{carried}

-- four bytes are those at their indices
pub carried_four : (l : List ℕ) → length l ≡ 4 → carried (get_or l 0 0 ∷ get_or l 1 0 ∷ get_or l 2 0 ∷ get_or l 3 0 ∷ []) ≡ carried l
carried_four (a ∷ b ∷ c ∷ d ∷ []) four = refl
carried_four l four = absurd (omega (arith, four))
