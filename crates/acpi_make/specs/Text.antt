-- Parts of texts.
use Rattle.std.specs.Prelude.{ℕ, ◌+◌, ◌-◌, ◌*◌, ◌^◌, ◌==◌, nat_lt, nat_le, ◌&&◌, ◌||◌, Bool, true, if◌then◌else◌}
use Rattle.std.specs.Prelude.{List, [], ◌∷◌, length, take, drop, Option, Some, None}
use Rattle.acpi_base.specs.Digit.{digit_value}

-- whether a character is white space: a space, a tab, or a carriage return
abbrev pub is_white : ℕ → Bool
is_white c = c == 32 || (c == 9 || c == 13)

-- what follows from a value, if there is one
abbrev pub if_some : {A B : Type 0} → Option A → (A → Option B) → Option B
if_some (Some value) rest = rest value
if_some None rest = None

-- the part of a text between two places, each the number of characters from it to the text's end
abbrev pub part_at : ℕ → ℕ → List ℕ → List ℕ
part_at from to text = take (from - to) (drop (length text - from) text)

-- what stands after the text's front, if it has this one
abbrev pub after : List ℕ → List ℕ → Option (List ℕ)
after [] text = Some text
after (c ∷ front) [] = None
after (c ∷ front) (d ∷ text) = if c == d then after front text else None

abbrev pub are_white : List ℕ → Bool
are_white [] = true
are_white (c ∷ text) = is_white c && are_white text

-- ---- numbers in decimal

abbrev pub is_decimal : ℕ → Bool
is_decimal c = nat_le 48 c && nat_le c 57

-- how many digits a text begins with
abbrev pub digits_front : List ℕ → ℕ
digits_front [] = 0
digits_front (c ∷ text) = if is_decimal c then 1 + digits_front text else 0

-- a number below 2^64 with a further digit
abbrev pub more_digits : ℕ → ℕ → Option ℕ
more_digits n c =
    if is_decimal c && nat_lt (n * 10 + (c - 48)) (2 ^ 64) then Some (n * 10 + (c - 48)) else None

abbrev pub decimal_from : ℕ → List ℕ → Option ℕ
decimal_from n [] = Some n
decimal_from n (c ∷ text) = if_some (more_digits n c) (λ m. decimal_from m text)

-- the number of a text of digits, if it is below 2^64
abbrev pub decimal_of : List ℕ → Option ℕ
decimal_of [] = None
decimal_of (c ∷ text) = decimal_from 0 (c ∷ text)

-- ---- numbers in hexadecimal

-- a number below 2^64 with a further digit
abbrev pub more_hex : ℕ → ℕ → Option ℕ
more_hex n c = if_some (digit_value c) (λ d. if nat_lt (n * 16 + d) (2 ^ 64) then Some (n * 16 + d) else None)

abbrev pub hex_from : ℕ → List ℕ → Option ℕ
hex_from n [] = Some n
hex_from n (c ∷ text) = if_some (more_hex n c) (λ m. hex_from m text)

-- the number of a text of digits, if it is below 2^64
abbrev pub hex_of : List ℕ → Option ℕ
hex_of [] = None
hex_of (c ∷ text) = hex_from 0 (c ∷ text)

-- ---- lines

-- what stands after an offset and a space, or the text, if it begins with no digit
abbrev pub after_offset : List ℕ → List ℕ
after_offset text = if digits_front text == 0 then text else drop (digits_front text + 1) text
