-- Hexadecimal digits in upper case.
use Rattle.std.proofs.Common.{◌≡◌, ℕ, zero, suc, ◌+◌, ◌-◌, ◌/◌, ◌%◌, ◌<◌, ◌^◌, ◌==◌, ◌&&◌, not, Bool, true, false, if◌then◌else◌, List, [], ◌∷◌, ◌++◌, length, replicate, refl, subst, arith, inl, inr, ◌∙◌, length-append}
use Rattle.std.specs.Char.{digit_value, is_ascii_hexdigit}
use Rattle.std.specs.Fmt.{digit_glyph, digits_onto, digits}
use Rattle.std.specs.Str.Parse.{digits_value}
use Rattle.std.proofs.lemmas.Bool.{and_parts, not-true, eqb-true, cases_lt}
use Rattle.std.proofs.lemmas.Fmt.{digits_is_IsNumeral}
use Rattle.acpi_dump.specs.Written.{offset_digits}
use Rattle.acpi_dump.proofs.Plain.{IsPlain, ArePlain}

-- a digit
pub record IsHex (c : ℕ) : Type 0 where
  pub plain : IsPlain c
  pub space : (c == 32) ≡ false
  pub hexadecimal : is_ascii_hexdigit c ≡ true

-- the digit of a number
pub record IsGlyph (c n : ℕ) : Type 0 where
  pub hex : IsHex c
  pub value : digit_value c ≡ n

abbrev is_glyph : ℕ → ℕ → Bool
is_glyph c n = not (c == 10) && not (c == 13) && not (c == 32) && is_ascii_hexdigit c && digit_value c == n

glyph_by : (c n : ℕ) → is_glyph c n ≡ true → IsGlyph c n
glyph_by c n is =
    let four = and_parts (not (c == 10) && not (c == 13) && not (c == 32) && is_ascii_hexdigit c) (digit_value c == n) is in
    let three = and_parts (not (c == 10) && not (c == 13) && not (c == 32)) (is_ascii_hexdigit c) four.0 in
    let two = and_parts (not (c == 10) && not (c == 13)) (not (c == 32)) three.0 in
    let one = and_parts (not (c == 10)) (not (c == 13)) two.0 in
    record {
      hex = record {
        plain = (not-true (c == 10) one.0, not-true (c == 13) one.1);
        space = not-true (c == 32) two.1;
        hexadecimal = three.1;
      };
      value = eqb-true (digit_value c) n four.1;
    }

-- the digits of the numbers below n
abbrev are_glyphs : ℕ → Bool
are_glyphs zero = true
are_glyphs (suc n) = is_glyph (digit_glyph true n) n && are_glyphs n

below : (m n : ℕ) → are_glyphs m ≡ true → n < m → IsGlyph (digit_glyph true n) n
below zero n are less = absurd (omega arith)
below (suc m) n are less =
    let parts = and_parts (is_glyph (digit_glyph true m) m) (are_glyphs m) are in
    elim (cases_lt n m) [
      | inl lower ↦ below m n parts.1 lower
      | inr not ↦
          let e : m ≡ n = omega arith in subst (λ (k : ℕ). IsGlyph (digit_glyph true k) k) e (glyph_by (digit_glyph true m) m parts.0)
    ]

pub glyph_is : (n : ℕ) → n < 16 → IsGlyph (digit_glyph true n) n
glyph_is n small = below 16 n refl small

-- ---- offsets

abbrev pub AreHex : List ℕ → Type 0
AreHex [] = Unit {0}
AreHex (c ∷ text) = IsHex c × AreHex text

pub hex_plain : (text : List ℕ) → AreHex text → ArePlain text
hex_plain [] are = tt
hex_plain (c ∷ text) are = (are.0.plain, hex_plain text are.1)

zeros_hex : (n : ℕ) (text : List ℕ) → AreHex text → AreHex (replicate n 48 ++ text)
zeros_hex zero text are = are
zeros_hex (suc n) text are = ((glyph_by 48 0 refl).hex, zeros_hex n text are)

onto_hex : (k n : ℕ) (text : List ℕ) → AreHex text → AreHex (digits_onto k 16 true n text)
onto_hex zero n text are = are
onto_hex (suc k) n text are =
    let here : AreHex (digit_glyph true (n % 16) ∷ text) = ((glyph_is (n % 16) (omega arith)).hex, are) in
    elim (n / 16 == 0) as (λ (b : Bool). AreHex (if b then digit_glyph true (n % 16) ∷ text else digits_onto k 16 true (n / 16) (digit_glyph true (n % 16) ∷ text)))
    [ true ↦ here | false ↦ onto_hex k (n / 16) (digit_glyph true (n % 16) ∷ text) here ]

pub digits_hex : (n : ℕ) → AreHex (digits 16 true n)
unfolding digits
digits_hex n = onto_hex 64 n [] tt

pub offset_hex : (n : ℕ) → AreHex (offset_digits n)
offset_hex n = zeros_hex (4 - length (digits 16 true n)) (digits 16 true n) (digits_hex n)

zeros_value : (n : ℕ) (text : List ℕ) → digits_value 16 (replicate n 48 ++ text) ≡ digits_value 16 text
zeros_value zero text = refl
zeros_value (suc n) text = zeros_value n text

pub offset_value : (n : ℕ) → n < 2 ^ 64 → digits_value 16 (offset_digits n) ≡ n
offset_value n small =
    zeros_value (4 - length (digits 16 true n)) (digits 16 true n)
    ∙ (digits_is_IsNumeral 16 true (omega arith) (omega arith) n (omega arith)).1

pub offset_some : (n : ℕ) → n < 2 ^ 64 → 0 < length (offset_digits n)
offset_some n small =
    let some = (digits_is_IsNumeral 16 true (omega arith) (omega arith) n (omega arith)).0.0 in
    omega (arith, some, length-append (replicate (4 - length (digits 16 true n)) 48) (digits 16 true n))
