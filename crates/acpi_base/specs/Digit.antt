-- Hexadecimal digits.
use Rattle.std.specs.Prelude.{ℕ, ◌+◌, ◌-◌, ◌/◌, ◌%◌, nat_lt, nat_le, ◌&&◌, if◌then◌else◌, List, [], ◌∷◌, Option, Some, None}

-- the value of a digit in upper or lower case
abbrev pub digit_value : ℕ → Option ℕ
digit_value c =
    if nat_le 0x30 c && nat_le c 0x39 then Some (c - 0x30)
    else (if nat_le 0x41 c && nat_le c 0x46 then Some (c - 0x41 + 10)
    else (if nat_le 0x61 c && nat_le c 0x66 then Some (c - 0x61 + 10)
    else None))

-- the digit of a value, in lower case
abbrev pub hex_digit : ℕ → ℕ
hex_digit n = if nat_lt n 10 then 0x30 + n else 0x57 + n

-- the two digits of a byte
abbrev pub hex_byte : ℕ → List ℕ
hex_byte b = hex_digit (b / 16) ∷ hex_digit (b % 16) ∷ []
