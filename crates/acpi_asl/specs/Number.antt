-- Numbers and strings of ASL (ACPI 6.5, 19.2.4 and 19.3.2).
use Rattle.std.specs.Prelude.{ℕ, zero, suc, ◌+◌, ◌/◌, ◌%◌, ◌^◌, nat_lt, nat_le, ◌==◌, ◌&&◌, ◌||◌, if◌then◌else◌}
use Rattle.std.specs.Prelude.{List, [], ◌∷◌, ◌++◌, codes}
use Rattle.std.specs.Fmt.{decimal}

-- a hexadecimal digit, in upper case
abbrev pub upper_digit : ℕ → ℕ
upper_digit n = if nat_lt n 10 then 0x30 + n else 0x37 + n

abbrev pub upper_byte : ℕ → List ℕ
upper_byte b = upper_digit (b / 16) ∷ upper_digit (b % 16) ∷ []

-- the digits of the lowest w bytes of a number, highest first
unfoldable pub digits_of : ℕ → ℕ → List ℕ
digits_of zero v = []
digits_of (suc w) v = digits_of w (v / 256) ++ upper_byte (v % 256)

-- the lowest w bytes of a number: two digits for each
abbrev pub hex : ℕ → ℕ → List ℕ
hex w v = codes "0x" ++ digits_of w v

-- A number of AML that has this many bytes after its prefix; Zero and One have none. The digits say how many bytes there are,
-- also where the number has a shorter form.
abbrev pub number_text : ℕ → ℕ → List ℕ
number_text v w = if w == 0 then (if v == 0 then codes "Zero" else (if v == 1 then codes "One" else hex 8 v)) else hex w v

-- the number of bytes of a number that stands alone
abbrev pub least_bytes : ℕ → ℕ
least_bytes v = if nat_lt v (2 ^ 8) then 1 else (if nat_lt v (2 ^ 16) then 2 else (if nat_lt v (2 ^ 32) then 4 else 8))

-- a number that AML doesn't have as a number: a size, or an offset
abbrev pub short_hex : ℕ → List ℕ
short_hex v = hex (least_bytes v) v

-- A byte of a string: `"` and `\` have a `\` before them, and a byte that isn't printable is an escape and two digits.
abbrev pub string_byte : List ℕ → ℕ → List ℕ
string_byte escape b =
    if b == 34 || b == 92 then 92 ∷ b ∷ []
    else (if nat_le 32 b && nat_le b 126 then b ∷ [] else escape ++ upper_byte b)

abbrev pub string_bytes_text : List ℕ → List ℕ → List ℕ
string_bytes_text escape [] = []
string_bytes_text escape (b ∷ bytes) = string_byte escape b ++ string_bytes_text escape bytes

-- a string between quotation marks
abbrev pub quoted : List ℕ → List ℕ → List ℕ
quoted escape bytes = codes "\"" ++ string_bytes_text escape bytes ++ codes "\""

-- a string of ASL
abbrev pub string_text : List ℕ → List ℕ
string_text bytes = quoted (codes "\\x") bytes

-- a string of JSON, in which each byte is the character that has its number (RFC 8259, section 7)
unfoldable pub json_string : List ℕ → List ℕ
json_string bytes = quoted (codes "\\u00") bytes

-- a number of JSON, or if it is above 2^53, on which readers of JSON don't agree, a string with its hexadecimal digits
unfoldable pub json_number : ℕ → List ℕ
json_number v = if nat_le v (2 ^ 53) then decimal v else (codes "\"0x" ++ digits_of 8 v ++ codes "\"")
