-- An address at the end of a line.
use Rattle.std.proofs.Common.{◌≡◌, ℕ, ◌+◌, ◌-◌, ◌<◌, Bool, false, ◌||◌, List, [], ◌∷◌, length, take, drop, sym, ap, ◌∙◌, arith, length-drop}
use Rattle.std.proofs.lemmas.List.{drop-drop, take_rest}
use Rattle.acpi_dump.specs.Line.{is_address, ends_in_address}

not_first : (text : List ℕ) → 0 < length text → is_address text ≡ false → ends_in_address text ≡ ends_in_address (drop 1 text)
not_first [] some is = absurd (omega arith)
not_first (c ∷ text) some is = ap (λ (b : Bool). b || ends_in_address text) is

-- a place without an address is passed
pub not_here : (text : List ℕ) (i : ℕ) → i < length text → is_address (take (length text - i) (drop i text)) ≡ false
    → ends_in_address (drop i text) ≡ ends_in_address (drop (i + 1) text)
not_here text i h is =
    not_first (drop i text) (omega (arith, length-drop i text)) (ap is_address (sym (take_rest text i)) ∙ is)
    ∙ ap ends_in_address (drop-drop 1 i text)
