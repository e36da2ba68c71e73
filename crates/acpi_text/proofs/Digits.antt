-- The digits of each byte.
use Rattle.std.proofs.Common.{◌≡◌, ℕ, zero, suc, ◌+◌, ◌*◌, ◌/◌, ◌%◌, ◌<◌, ◌&&◌, ◌==◌, Bool, true, List, [], ◌∷◌, length, get_or}
use Rattle.std.proofs.Common.{◌++◌, refl, ap, ◌∙◌, append_assoc, subst, arith, inl, inr}
use Rattle.std.specs.Str.{IsAscii, IsUtf8}
use Rattle.std.proofs.lemmas.Str.{IsUtf8-from_ascii}
use Rattle.acpi_base.specs.Bytes.{AreBytes}
use Rattle.std.proofs.lemmas.Str.Ascii.{IsAscii-nil, IsAscii-cons}
use Rattle.std.proofs.lemmas.Bool.{and_parts, eqb-true, cases_lt}
use Rattle.std.proofs.lemmas.Bool.Decides.{nat_tests}
use Rattle.acpi_base.specs.Digit.{hex_digit, hex_byte}
use Rattle.acpi_text.specs.Hex.{number_text}
use Rattle.acpi_text.specs.declared.hex.TheConstants.{DIGITS}

-- the digits of the bytes below n stand in the table
abbrev are_digits : ℕ → Bool
are_digits zero = true
are_digits (suc b) =
    ((get_or DIGITS.now (2 * b) 0 == hex_digit (b / 16)) && (get_or DIGITS.now (2 * b + 1) 0 == hex_digit (b % 16))) && are_digits b

-- the two digits of a byte at their places
abbrev pub AreAt : ℕ → Type 0
AreAt b = (get_or DIGITS.now (2 * b) 0 ≡ hex_digit (b / 16)) × (get_or DIGITS.now (2 * b + 1) 0 ≡ hex_digit (b % 16))

below : (n b : ℕ) → are_digits n ≡ true → b < n → AreAt b
below zero b are less = absurd (omega arith)
below (suc n) b are less =
    let parts = and_parts ((get_or DIGITS.now (2 * n) 0 == hex_digit (n / 16)) && (get_or DIGITS.now (2 * n + 1) 0 == hex_digit (n % 16))) (are_digits n) are in
    elim (cases_lt b n) [
      | inl lower ↦ below n b parts.1 lower
      | inr not ↦
          let two = and_parts (get_or DIGITS.now (2 * n) 0 == hex_digit (n / 16)) (get_or DIGITS.now (2 * n + 1) 0 == hex_digit (n % 16)) parts.0 in
          let e : n ≡ b = omega arith in
          subst AreAt e (eqb-true _ _ two.0, eqb-true _ _ two.1)
    ]

pub digits_at : (b : ℕ) → b < 256 → AreAt b
digits_at b small = below 256 b refl small

-- ---- digits are text

pub digit_ascii : (n : ℕ) → n < 16 → hex_digit n < 128
digit_ascii n small = grind (arith, nat_tests)

byte_ascii : (b : ℕ) → b < 256 → IsAscii (hex_byte b)
byte_ascii b small =
    IsAscii-cons (hex_digit (b / 16)) (hex_digit (b % 16) ∷ []) (digit_ascii (b / 16) (omega arith))
    (IsAscii-cons (hex_digit (b % 16)) [] (digit_ascii (b % 16) (omega arith)) IsAscii-nil)

both_ascii : (a b : List ℕ) → IsAscii a → IsAscii b → IsAscii (a ++ b)
both_ascii [] b one two = two
both_ascii (x ∷ a) b one two = IsAscii-cons x (a ++ b) (one 0) (both_ascii a b (λ i. one (suc i)) two)

number_ascii : (bytes : List ℕ) → AreBytes bytes → IsAscii (number_text bytes)
number_ascii [] are = IsAscii-nil
number_ascii (b ∷ bytes) are = both_ascii (number_text bytes) (hex_byte b) (number_ascii bytes are.1) (byte_ascii b are.0)

-- two digits were added
pub pair_added : (b : ℕ) (c d old now new : List ℕ) → now ≡ old ++ c → c ≡ hex_digit (b / 16) ∷ [] → new ≡ now ++ d → d ≡ hex_digit (b % 16) ∷ []
    → new ≡ old ++ hex_byte b
pair_added b c d old now new one first two second =
    two ∙ ap (λ (l : List ℕ). l ++ d) one ∙ append_assoc old c d
    ∙ ap (λ (l : List ℕ). old ++ (l ++ d)) first ∙ ap (λ (l : List ℕ). old ++ (hex_digit (b / 16) ∷ l)) second

pub spaced_utf8 : (bytes : List ℕ) → AreBytes bytes → IsUtf8 (32 ∷ number_text bytes)
spaced_utf8 bytes are = IsUtf8-from_ascii (32 ∷ number_text bytes) (IsAscii-cons 32 (number_text bytes) (omega arith) (number_ascii bytes are))

-- ---- numbers of the usual widths

abbrev pub digits_in : List ℕ → ℕ → List ℕ → List ℕ
digits_in bytes i more = hex_digit (get_or bytes i 0 / 16) ∷ hex_digit (get_or bytes i 0 % 16) ∷ more

pub one_byte : (bytes : List ℕ) → length bytes ≡ 1 → digits_in bytes 0 [] ≡ number_text bytes
one_byte [] is = absurd (omega arith)
one_byte (a ∷ []) is = refl
one_byte (a ∷ b ∷ more) is = absurd (omega arith)

pub two_bytes : (bytes : List ℕ) → length bytes ≡ 2 → digits_in bytes 1 (digits_in bytes 0 []) ≡ number_text bytes
two_bytes [] is = absurd (omega arith)
two_bytes (a ∷ []) is = absurd (omega arith)
two_bytes (a ∷ b ∷ []) is = refl
two_bytes (a ∷ b ∷ c ∷ more) is = absurd (omega arith)

pub four_bytes : (bytes : List ℕ) → length bytes ≡ 4
    → digits_in bytes 3 (digits_in bytes 2 (digits_in bytes 1 (digits_in bytes 0 []))) ≡ number_text bytes
four_bytes [] is = absurd (omega arith)
four_bytes (a ∷ []) is = absurd (omega arith)
four_bytes (a ∷ b ∷ []) is = absurd (omega arith)
four_bytes (a ∷ b ∷ c ∷ []) is = absurd (omega arith)
four_bytes (a ∷ b ∷ c ∷ d ∷ []) is = refl
four_bytes (a ∷ b ∷ c ∷ d ∷ e ∷ more) is = absurd (omega arith)

pub eight_bytes : (bytes : List ℕ) → length bytes ≡ 8
    → digits_in bytes 7 (digits_in bytes 6 (digits_in bytes 5 (digits_in bytes 4
    (digits_in bytes 3 (digits_in bytes 2 (digits_in bytes 1 (digits_in bytes 0 []))))))) ≡ number_text bytes
eight_bytes [] is = absurd (omega arith)
eight_bytes (a ∷ []) is = absurd (omega arith)
eight_bytes (a ∷ b ∷ []) is = absurd (omega arith)
eight_bytes (a ∷ b ∷ c ∷ []) is = absurd (omega arith)
eight_bytes (a ∷ b ∷ c ∷ d ∷ []) is = absurd (omega arith)
eight_bytes (a ∷ b ∷ c ∷ d ∷ e ∷ []) is = absurd (omega arith)
eight_bytes (a ∷ b ∷ c ∷ d ∷ e ∷ f ∷ []) is = absurd (omega arith)
eight_bytes (a ∷ b ∷ c ∷ d ∷ e ∷ f ∷ g ∷ []) is = absurd (omega arith)
eight_bytes (a ∷ b ∷ c ∷ d ∷ e ∷ f ∷ g ∷ h ∷ []) is = refl
eight_bytes (a ∷ b ∷ c ∷ d ∷ e ∷ f ∷ g ∷ h ∷ i ∷ more) is = absurd (omega arith)
