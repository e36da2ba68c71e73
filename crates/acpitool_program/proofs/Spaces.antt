-- Spaces one after another.
use Rattle.std.proofs.Common.{◌≡◌, ℕ, suc, List, [], ◌∷◌, ◌++◌, ap, sym, ◌∙◌, append_assoc}
use Rattle.acpi_text.specs.Line.{spaces}

-- one of the spaces that were left was added
pub space_added : (text line all : List ℕ) (left less : ℕ) → left ≡ suc less → line ≡ text ++ 32 ∷ [] → text ++ spaces left ≡ all
    → line ++ spaces less ≡ all
space_added text line all left less is added whole =
    ap (λ l. l ++ spaces less) added ∙ append_assoc text (32 ∷ []) (spaces less) ∙ ap (λ n. text ++ spaces n) (sym is) ∙ whole
