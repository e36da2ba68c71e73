-- The texts of EISA ids (ACPI 6.5, 19.3.4).
use Rattle.std.specs.Prelude.{ℕ, ◌+◌, ◌/◌, ◌%◌, ◌^◌, nat_le, nat_lt, ◌&&◌, Bool, if◌then◌else◌, List, [], ◌∷◌, ◌++◌}
use Rattle.std.specs.Int.{w32, swap_bytes}

-- a letter of an id, from 1 to 26
abbrev pub is_letter : ℕ → Bool
is_letter n = nat_le 1 n && nat_le n 26

-- a hexadecimal digit, in upper case
abbrev pub upper_digit : ℕ → ℕ
upper_digit n = if nat_lt n 10 then 48 + n else 55 + n

-- Whether these 32 bits are an id: three letters at bits 26, 21 and 16, and bit 31 is clear.
abbrev pub is_id : ℕ → Bool
is_id n = is_letter (n / 2 ^ 26) && is_letter (n / 2 ^ 21 % 32) && is_letter (n / 2 ^ 16 % 32)

-- the three letters
abbrev pub letters : ℕ → List ℕ
letters n = (64 + n / 2 ^ 26) ∷ (64 + n / 2 ^ 21 % 32) ∷ (64 + n / 2 ^ 16 % 32) ∷ []

-- the digits of a byte
abbrev pub upper_byte : ℕ → List ℕ
upper_byte b = upper_digit (b / 16) ∷ upper_digit (b % 16) ∷ []

-- three letters, and four digits of the low 16 bits
abbrev pub id_text : ℕ → List ℕ
id_text n = letters n ++ (upper_byte (n / 2 ^ 8 % 256) ++ upper_byte (n % 256))

-- the text of a number whose bytes, in the opposite order, are an id; otherwise nothing
abbrev pub eisa_text : ℕ → List ℕ
eisa_text value = if is_id (swap_bytes w32 value) then id_text (swap_bytes w32 value) else []
