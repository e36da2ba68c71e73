-- Names in upper case.
use Rattle.std.proofs.Common.{◌≡◌, ◌∙◌, ℕ, List, [], ◌∷◌, length, get_or, ap, arith}
use Rattle.std.specs.Char.{to_ascii_uppercase}
use Rattle.acpi_forms.specs.Known.{meant_by, meant}

-- the name of four bytes, by their indices
pub meant_four : (l : List ℕ) (a b d e : ℕ) → length l ≡ 4 → a ≡ to_ascii_uppercase (get_or l 0 0) → b ≡ to_ascii_uppercase (get_or l 1 0)
    → d ≡ to_ascii_uppercase (get_or l 2 0) → e ≡ to_ascii_uppercase (get_or l 3 0) → meant_by (a ∷ b ∷ d ∷ e ∷ []) ≡ meant l
meant_four (w ∷ x ∷ y ∷ z ∷ []) a b d e four one two three last =
    ap (λ n. meant_by (n ∷ b ∷ d ∷ e ∷ [])) one
    ∙ ap (λ n. meant_by (to_ascii_uppercase w ∷ n ∷ d ∷ e ∷ [])) two
    ∙ ap (λ n. meant_by (to_ascii_uppercase w ∷ to_ascii_uppercase x ∷ n ∷ e ∷ [])) three
    ∙ ap (λ n. meant_by (to_ascii_uppercase w ∷ to_ascii_uppercase x ∷ to_ascii_uppercase y ∷ n ∷ [])) last
meant_four l a b d e four one two three last = absurd (omega (arith, four))
