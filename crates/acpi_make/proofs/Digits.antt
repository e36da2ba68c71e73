-- Characters, and what tests say of them.
use Rattle.std.proofs.Common.{◌≡◌, ℕ, zero, suc, ◌<◌, ◌==◌, ◌&&◌, ◌||◌, not, Bool, true, false, Option, Some, None, refl, subst, arith, inl, inr}
use Rattle.std.proofs.lemmas.Bool.{and_parts, eqb-true, cases_lt}
use Rattle.acpi_base.specs.Digit.{digit_value, hex_digit}
use Rattle.acpi_make.specs.Step.{is_control}
use Rattle.acpi_make.specs.Text.{is_white}

-- a character that prints
pub record Prints (c : ℕ) : Type 0 where
  pub line : (c == 10) ≡ false
  pub control : is_control c ≡ false

-- a digit, which begins a value, and is neither white space nor a slash
pub record IsDigit (c n : ℕ) : Type 0 where
  pub prints : Prints c
  pub white : is_white c ≡ false
  pub slash : (c == 47) ≡ false
  pub quotation : (c == 34) ≡ false
  pub question : (c == 63) ≡ false
  pub brace : (c == 123) ≡ false
  pub word : (c == 35 || c == 64) ≡ false
  pub prefix : (c == 120 || c == 88) ≡ false
  pub value : digit_value c ≡ Some n

abbrev is_some : Option ℕ → ℕ → Bool
is_some (Some m) n = m == n
is_some None n = false

abbrev is_mark : ℕ → Bool
is_mark c = c == 34 || (c == 63 || (c == 123 || ((c == 35 || c == 64) || (c == 120 || c == 88))))

abbrev is_digit : ℕ → ℕ → Bool
is_digit c n = not (c == 10) && not (is_control c) && not (is_white c) && not (c == 47) && not (is_mark c) && is_some (digit_value c) n

false_by : (b : Bool) → not b ≡ true → b ≡ false
false_by true is = absurd cc
false_by false is = refl

neither : (a b : Bool) → not (a || b) ≡ true → (not a ≡ true) × (not b ≡ true)
neither true b is = absurd cc
neither false b is = (refl, is)

some_by : (o : Option ℕ) (n : ℕ) → is_some o n ≡ true → o ≡ Some n
some_by (Some m) n is = let e = eqb-true m n is in cc
some_by None n is = absurd cc

digit_by : (c n : ℕ) → is_digit c n ≡ true → IsDigit c n
digit_by c n is =
    let a = and_parts (not (c == 10) && not (is_control c) && not (is_white c) && not (c == 47) && not (is_mark c)) (is_some (digit_value c) n) is in
    let b = and_parts (not (c == 10) && not (is_control c) && not (is_white c) && not (c == 47)) (not (is_mark c)) a.0 in
    let d = and_parts (not (c == 10) && not (is_control c) && not (is_white c)) (not (c == 47)) b.0 in
    let e = and_parts (not (c == 10) && not (is_control c)) (not (is_white c)) d.0 in
    let f = and_parts (not (c == 10)) (not (is_control c)) e.0 in
    let g = neither (c == 34) (c == 63 || (c == 123 || ((c == 35 || c == 64) || (c == 120 || c == 88)))) b.1 in
    let h = neither (c == 63) (c == 123 || ((c == 35 || c == 64) || (c == 120 || c == 88))) g.1 in
    let k = neither (c == 123) ((c == 35 || c == 64) || (c == 120 || c == 88)) h.1 in
    let m = neither (c == 35 || c == 64) (c == 120 || c == 88) k.1 in
    record {
      prints = record { line = false_by (c == 10) f.0; control = false_by (is_control c) f.1 };
      white = false_by (is_white c) e.1;
      slash = false_by (c == 47) d.1;
      quotation = false_by (c == 34) g.0;
      question = false_by (c == 63) h.0;
      brace = false_by (c == 123) k.0;
      word = false_by (c == 35 || c == 64) m.0;
      prefix = false_by (c == 120 || c == 88) m.1;
      value = some_by (digit_value c) n a.1;
    }

-- the digits below n
abbrev are_digits : ℕ → Bool
are_digits zero = true
are_digits (suc n) = is_digit (hex_digit n) n && are_digits n

below : (m n : ℕ) → are_digits m ≡ true → n < m → IsDigit (hex_digit n) n
below zero n are less = absurd (omega arith)
below (suc m) n are less =
    let parts = and_parts (is_digit (hex_digit m) m) (are_digits m) are in
    elim (cases_lt n m) [
      | inl lower ↦ below m n parts.1 lower
      | inr not ↦ let e : m ≡ n = omega arith in subst (λ k. IsDigit (hex_digit k) k) e (digit_by (hex_digit m) m parts.0)
    ]

pub digit_is : (n : ℕ) → n < 16 → IsDigit (hex_digit n) n
digit_is n small = below 16 n refl small
