-- Strings of JSON (RFC 8259, section 7).
use Rattle.std.specs.Prelude.{ℕ, ◌==◌, nat_le, nat_lt, ◌&&◌, Bool, true, false, if◌then◌else◌, List, [], ◌∷◌, ◌++◌, codes}
use Rattle.std.specs.List.{flat_map}
use Rattle.acpi_base.specs.Digit.{hex_byte}

-- what stands between the elements of a list: nothing before the first, and a comma before each other one
abbrev pub separator : Bool → List ℕ
separator true = []
separator false = codes ","

-- a character that has the number of a byte: itself, if it prints and has no meaning in a string, and otherwise an escape
abbrev pub character : ℕ → List ℕ
character c =
    if c == 34 then codes "\\\""
    else (if c == 92 then codes "\\\\"
    else (if nat_le 32 c && nat_le c 126 then c ∷ []
    else codes "\\u00" ++ hex_byte c))

-- the characters of bytes: each byte is one
abbrev pub characters : List ℕ → List ℕ
characters bytes = flat_map character bytes

-- bytes as a string
abbrev pub string : List ℕ → List ℕ
string bytes = 34 ∷ (characters bytes ++ 34 ∷ [])

-- a byte of a text in UTF-8: a character of ASCII, or a part of a character that stands for itself
abbrev pub text_byte : ℕ → List ℕ
text_byte c = if nat_lt c 128 then character c else c ∷ []

-- a text in UTF-8 as a string
abbrev pub text_string : List ℕ → List ℕ
text_string text = 34 ∷ (flat_map text_byte text ++ 34 ∷ [])

-- bytes as a string of hexadecimal digits, two for each, in their order
abbrev pub digits_string : List ℕ → List ℕ
digits_string bytes = 34 ∷ (flat_map hex_byte bytes ++ 34 ∷ [])
