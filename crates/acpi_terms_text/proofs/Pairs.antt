-- Pairs of digits, read as bytes.
use Rattle.std.proofs.Common.{◌≡◌, ℕ, zero, suc, ◌/◌, ◌%◌, ◌<◌, ◌==◌, ◌&&◌, Bool, true, false, Option, Some, None, List, [], ◌∷◌, get_or, refl, ap, ◌∙◌, subst, arith, inl, inr}
use Rattle.std.proofs.lemmas.Bool.{and_parts, eqb-true, cases_lt}
use Rattle.acpi_base.specs.Bytes.{AreBytes}
use Rattle.acpi_aml.specs.Hex.{byte_of_digits, led, bytes_of_digits}
use Rattle.acpi_read.specs.Lines.{hex_bytes}
use Rattle.acpi_terms_text.specs.Eisa.{upper_digit}

abbrev is_some : Option ℕ → ℕ → Bool
is_some (Some m) n = m == n
is_some None n = false

some_by : (o : Option ℕ) (n : ℕ) → is_some o n ≡ true → o ≡ Some n
some_by (Some m) n is = let e = eqb-true m n is in cc
some_by None n is = absurd cc

-- each number below n is what is read from its digits
abbrev are_read : (ℕ → Option ℕ) → ℕ → Bool
are_read pair zero = true
are_read pair (suc n) = is_some (pair n) n && are_read pair n

below : (pair : ℕ → Option ℕ) (n b : ℕ) → are_read pair n ≡ true → b < n → pair b ≡ Some b
below pair zero b are less = absurd (omega arith)
below pair (suc n) b are less =
    let parts = and_parts (is_some (pair n) n) (are_read pair n) are in
    elim (cases_lt b n) [
      | inl lower ↦ below pair n b parts.1 lower
      | inr not ↦ let e : n ≡ b = omega arith in subst (λ (k : ℕ). pair k ≡ Some k) e (some_by (pair n) n parts.0)
    ]

abbrev upper_pair : ℕ → Option ℕ
upper_pair b = byte_of_digits (upper_digit (b / 16)) (upper_digit (b % 16))

abbrev lower_pair : ℕ → Option ℕ
lower_pair b = byte_of_digits (get_or (hex_bytes (b ∷ [])) 0 0) (get_or (hex_bytes (b ∷ [])) 1 0)

pub upper_read : (b : ℕ) → b < 256 → byte_of_digits (upper_digit (b / 16)) (upper_digit (b % 16)) ≡ Some b
upper_read b small = below upper_pair 256 b refl small

lower_read : (b : ℕ) → b < 256 → lower_pair b ≡ Some b
lower_read b small = below lower_pair 256 b refl small

pub bytes_read : (bytes : List ℕ) → AreBytes bytes → bytes_of_digits (hex_bytes bytes) ≡ Some bytes
bytes_read [] are = refl
bytes_read (b ∷ bytes) are =
    ap (λ (o : Option ℕ). led o (bytes_of_digits (hex_bytes bytes))) (lower_read b are.0) ∙ ap (led (Some b)) (bytes_read bytes are.1)
