-- Texts that print.
use Rattle.std.proofs.Common.{◌≡◌, ℕ, ◌+◌, ◌%◌, ◌^◌, ◌<◌, ◌==◌, ◌&&◌, not, true, false, Bool, cond}
use Rattle.std.proofs.Common.{List, [], ◌∷◌, ◌++◌, codes, refl, arith}
use Rattle.std.specs.Fmt.{decimal}
use Rattle.std.proofs.lemmas.Fmt.{decimal_by_steps}
use Rattle.std.proofs.lemmas.Bool.Decides.{nat_tests}
use Rattle.std.proofs.lemmas.Bool.{and_parts}
use Rattle.acpi_text.specs.Label.{prints, all_print, is_label, label}
use Rattle.acpi_text.specs.Names.{OneLine}

-- each character prints
abbrev pub Plain : List ℕ → Type 0
Plain [] = Unit {0}
Plain (c ∷ text) = (prints c ≡ true) × Plain text

-- each prints, and none is a colon
abbrev pub Quiet : List ℕ → Type 0
Quiet [] = Unit {0}
Quiet (c ∷ text) = (prints c ≡ true) × ((c == 58) ≡ false) × Quiet text

pub plain_append : (a b : List ℕ) → Plain a → Plain b → Plain (a ++ b)
plain_append [] b one two = two
plain_append (c ∷ a) b one two = (one.0, plain_append a b one.1 two)

pub quiet_append : (a b : List ℕ) → Quiet a → Quiet b → Quiet (a ++ b)
quiet_append [] b one two = two
quiet_append (c ∷ a) b one two = (one.0, one.1, quiet_append a b one.2 two)

pub quiet_is_plain : (text : List ℕ) → Quiet text → Plain text
quiet_is_plain [] quiet = tt
quiet_is_plain (c ∷ text) quiet = (quiet.0, quiet_is_plain text quiet.2)

-- ---- lines

pub ends_no_line : (c : ℕ) → prints c ≡ true → (c == 10) ≡ false
ends_no_line c is = grind (arith, nat_tests)

pub plain_is_one_line : (text : List ℕ) → Plain text → OneLine text
plain_is_one_line [] plain = tt
plain_is_one_line (c ∷ text) plain = (ends_no_line c plain.0, plain_is_one_line text plain.1)

pub one_line_append : (a b : List ℕ) → OneLine a → OneLine b → OneLine (a ++ b)
one_line_append [] b one two = two
one_line_append (c ∷ a) b one two = (one.0, one_line_append a b one.1 two)

-- ---- texts, names, and numbers in decimal

pub plain_text : (text : List ℕ) → all_print text ≡ true → Plain text
plain_text [] is = tt
plain_text (c ∷ text) is =
    let parts = and_parts (prints c) (all_print text) is in
    (parts.0, plain_text text parts.1)

no_colon : (b : Bool) → not b ≡ true → b ≡ false
no_colon true is = absurd cc
no_colon false is = refl

pub quiet_text : (text : List ℕ) → is_label text ≡ true → Quiet text
quiet_text [] is = tt
quiet_text (c ∷ text) is =
    let parts = and_parts (prints c && not (c == 58)) (is_label text) is in
    let one = and_parts (prints c) (not (c == 58)) parts.0 in
    (one.0, no_colon (c == 58) one.1, quiet_text text parts.1)

quiet_chosen : (b : Bool) (name : List ℕ) → (b ≡ true → Quiet name) → Quiet (cond b name (codes "?"))
quiet_chosen true name quiet = quiet refl
quiet_chosen false name quiet = quiet_text (codes "?") refl

pub quiet_label : (name : List ℕ) → Quiet (label name)
quiet_label name = quiet_chosen (is_label name) name (quiet_text name)

pub quiet_digit : (n : ℕ) → n < 10 → Quiet ((48 + n) ∷ [])
quiet_digit n small = (grind (arith, nat_tests), grind (arith, nat_tests), tt)

pub quiet_decimal : (n : ℕ) → n < 2 ^ 64 → Quiet (decimal n)
quiet_decimal = decimal_by_steps (λ m ds. Quiet ds) (λ m small. quiet_digit m small)
    (λ m ds large quiet. quiet_append ds ((48 + m % 10) ∷ []) quiet (quiet_digit (m % 10) (omega arith)))
