-- Texts that begin a name.
use Rattle.std.proofs.Common.{◌≡◌, ℕ, ◌+◌, ◌%◌, ◌^◌, ◌<◌, ◌==◌, true, false}
use Rattle.std.proofs.Common.{List, [], ◌∷◌, ◌++◌, arith}
use Rattle.std.specs.Fmt.{decimal}
use Rattle.std.proofs.lemmas.Fmt.{decimal_by_steps}
use Rattle.std.proofs.lemmas.Bool.Decides.{nat_tests}
use Rattle.acpi_text.specs.Label.{prints}
use Rattle.acpi_text.proofs.Printed.{Quiet, quiet_append, quiet_digit}
use Rattle.acpi_make.specs.Text.{is_white}
use Rattle.acpi_make.proofs.Digits.{Prints}

pub printed : (b : ℕ) → prints b ≡ true → Prints b
printed b is = record { line = grind (arith, nat_tests); control = grind (arith, nat_tests) }

-- The text prints, has no colon, and begins with neither white space, a slash nor a number sign.
abbrev pub Leads : List ℕ → Type 0
Leads [] = ⊥
Leads (c ∷ text) = (is_white c ≡ false) × ((c == 47) ≡ false) × ((c == 35) ≡ false) × Quiet (c ∷ text)

pub leads_append : (a b : List ℕ) → Leads a → Quiet b → Leads (a ++ b)
leads_append [] b one two = absurd one
leads_append (c ∷ a) b one two = (one.0, one.1, one.2, quiet_append (c ∷ a) b one.3 two)

pub leads_decimal : (n : ℕ) → n < 2 ^ 64 → Leads (decimal n)
leads_decimal = decimal_by_steps (λ m ds. Leads ds)
    (λ m small. (grind (arith, nat_tests), grind (arith, nat_tests), grind (arith, nat_tests), quiet_digit m small))
    (λ m ds large leads. leads_append ds ((48 + m % 10) ∷ []) leads (quiet_digit (m % 10) (omega arith)))
