-- Texts of one line.
use Rattle.std.proofs.Common.{◌≡◌, ◌≢◌, ℕ, zero, suc, ◌/◌, ◌%◌, ◌==◌, ◌&&◌, not, Bool, true, false, List, [], ◌∷◌, ◌++◌, arith}
use Rattle.std.specs.Prelude.{if◌then◌else◌}
use Rattle.std.specs.Fmt.{digit_glyph, digits_onto, digits, decimal}
use Rattle.std.proofs.lemmas.Bool.{and_parts}
use Rattle.std.proofs.lemmas.Bool.Decides.{nat_tests}
use Rattle.acpi_base.specs.Digit.{hex_digit}
use Rattle.acpi_read.specs.Lines.{hex_bytes}
use Rattle.acpi_terms_text.specs.Laws.{IsOneLine}

-- ---- lists of one line

pub one_and : (a b : List ℕ) → IsOneLine a → IsOneLine b → IsOneLine (a ++ b)
one_and [] b p q = q
one_and (c ∷ a) b p q = (p.0, one_and a b p.1 q)

pub either_line : (t : Bool) (text : List ℕ) → IsOneLine text → IsOneLine (if t then text else [])
either_line true text one = one
either_line false text one = tt

-- the same as a test
abbrev pub is_line : List ℕ → Bool
is_line [] = true
is_line (c ∷ text) = not (c == 10) && is_line text

pub not_ten : (c : ℕ) → not (c == 10) ≡ true → c ≢ 10
not_ten c is = λ e. absurd (grind (arith, nat_tests, e, is))

pub tested : (text : List ℕ) → is_line text ≡ true → IsOneLine text
tested [] is = tt
tested (c ∷ text) is = let parts = and_parts (not (c == 10)) (is_line text) is in (not_ten c parts.0, tested text parts.1)

-- ---- digits

pub hex_line : (n : ℕ) → hex_digit n ≢ 10
hex_line n = λ e. absurd (grind (arith, nat_tests, e))

pub bytes_line : (bytes : List ℕ) → IsOneLine (hex_bytes bytes)
bytes_line [] = tt
bytes_line (b ∷ bytes) = (hex_line (b / 16), (hex_line (b % 16), bytes_line bytes))

glyph_line : (n : ℕ) → digit_glyph false n ≢ 10
glyph_line n = λ e. absurd (grind (arith, nat_tests, e))

onto_line : (k n : ℕ) (acc : List ℕ) → IsOneLine acc → IsOneLine (digits_onto k 10 false n acc)
onto_line zero n acc one = one
onto_line (suc k) n acc one =
    let longer : IsOneLine (digit_glyph false (n % 10) ∷ acc) = (glyph_line (n % 10), one) in
    elim (n / 10 == 0) as (λ v. IsOneLine (if v then digit_glyph false (n % 10) ∷ acc else digits_onto k 10 false (n / 10) (digit_glyph false (n % 10) ∷ acc))) [
      | true ↦ longer
      | false ↦ onto_line k (n / 10) (digit_glyph false (n % 10) ∷ acc) longer
    ]

pub decimal_line : (n : ℕ) → IsOneLine (decimal n)
unfolding digits
decimal_line n = onto_line 64 n [] tt
