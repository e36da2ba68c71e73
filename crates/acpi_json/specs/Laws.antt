-- What laws say.
use Rattle.std.specs.Prelude.{◌≡◌, ◌≢◌, ◌⊎◌, ℕ, ◌≤◌, ◌<◌, List, [], ◌∷◌, ◌++◌}
use Rattle.std.specs.List.{concat}
use Rattle.acpi_base.specs.Bytes.{AreBytes}
use Rattle.acpi_base.specs.Digit.{hex_digit}
use Rattle.acpi_json.specs.Text.{string, text_string}

-- ---- the grammar of strings (RFC 8259, section 7)

-- a byte that stands for itself: no control character, no quotation mark and no backslash
abbrev pub IsUnescaped : ℕ → Type 0
IsUnescaped c = (32 ≤ c) × (c ≢ 34) × (c ≢ 92)

-- a character of a string: a byte that stands for itself; a quotation mark or a backslash after a backslash; or a backslash,
-- a `u`, and four hexadecimal digits, of which the first two are zeros
abbrev pub IsCharacter : List ℕ → Type 0
IsCharacter text =
    ((c : ℕ) × IsUnescaped c × (text ≡ c ∷ []))
    ⊎ (text ≡ 92 ∷ 34 ∷ [])
    ⊎ (text ≡ 92 ∷ 92 ∷ [])
    ⊎ ((h : ℕ) × (l : ℕ) × (h < 16) × (l < 16) × (text ≡ 92 ∷ 117 ∷ 48 ∷ 48 ∷ hex_digit h ∷ hex_digit l ∷ []))

abbrev pub AreCharacters : List (List ℕ) → Type 0
AreCharacters [] = Unit {0}
AreCharacters (one ∷ more) = IsCharacter one × AreCharacters more

-- a string: a quotation mark, characters, and a quotation mark
pub record IsString (text : List ℕ) : Type 0 where
  pub characters : List (List ℕ)
  pub are : AreCharacters characters
  pub is : text ≡ 34 ∷ (concat characters ++ 34 ∷ [])

-- ---- laws

-- What is written as a string is one, for all bytes.
abbrev pub StringsAreStrings : Type 0
StringsAreStrings = (bytes : List ℕ) → AreBytes bytes → IsString (string bytes) × IsString (text_string bytes)
