-- Numbers, one after another.
use Rattle.std.proofs.Common.{◌≡◌, ℕ, suc, ◌+◌, Bool, false, List, ◌++◌, take, drop, sym, ap, ◌∙◌, append_assoc, arith}
use Rattle.acpi_json.specs.Number.{number, numbers}
use Rattle.acpi_json.specs.Text.{separator}

-- the next number was added
pub numbers_go_on : (first : Bool) (w left less : ℕ) (rest one more old now comma new : List ℕ) → left ≡ less + 1
    → one ≡ take w rest → more ≡ drop w rest
    → now ++ numbers first w left rest ≡ old → comma ≡ now ++ separator first → new ≡ comma ++ number one
    → new ++ numbers false w less more ≡ old
numbers_go_on first w left less rest one more old now comma new next front back before parted added =
    let others = numbers false w less (drop w rest) in
    let this = number (take w rest) in
    let whole : numbers first w left rest ≡ separator first ++ (this ++ others) =
    ap (λ n. numbers first w n rest) (let e : left ≡ suc less = omega arith in e) in
    ap (λ (l : List ℕ). new ++ numbers false w less l) back
    ∙ ap (λ (l : List ℕ). l ++ others)
    (added ∙ ap (λ (l : List ℕ). comma ++ number l) front ∙ ap (λ (l : List ℕ). l ++ this) parted)
    ∙ append_assoc (now ++ separator first) this others
    ∙ append_assoc now (separator first) (this ++ others)
    ∙ ap (λ (l : List ℕ). now ++ l) (sym whole)
    ∙ before
