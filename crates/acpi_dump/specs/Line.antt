-- What a line of a dump is. Lines are given without what ends them.
use Rattle.std.specs.Prelude.{ℕ, suc, zero, ◌+◌, ◌*◌, ◌==◌, nat_eq, nat_lt, nat_le, ◌&&◌, ◌||◌, not, Bool, false}
use Rattle.std.specs.Prelude.{if◌then◌else◌, List, [], ◌∷◌, length, drop, slice_index, codes}
use Rattle.std.specs.Char.{digit_value, is_ascii_hexdigit}
use Rattle.std.specs.List.{starts_with, list_all, take_while}

-- ---- blank lines and titles

-- only spaces and tabs
abbrev pub is_blank : List ℕ → Bool
is_blank line = list_all (λ c. c == 32 || c == 9) line

-- ` @ 0x` and hexadecimal digits, at least one
abbrev pub is_address : List ℕ → Bool
is_address text = nat_lt 5 (length text) && starts_with nat_eq text (codes " @ 0x") && list_all is_ascii_hexdigit (drop 5 text)

-- a text that has such an address at its end
abbrev pub ends_in_address : List ℕ → Bool
ends_in_address [] = false
ends_in_address (c ∷ text) = is_address (c ∷ text) || ends_in_address text

-- a name of at least one byte, which doesn't begin with a space, and an address
abbrev pub is_title : List ℕ → Bool
is_title [] = false
is_title (c ∷ line) = not (c == 32) && ends_in_address line

-- ---- bytes

-- a space and two hexadecimal digits, and then the end or a space
abbrev pub is_byte : List ℕ → Bool
is_byte text = nat_le 3 (length text) && slice_index text 0 == 32
    && is_ascii_hexdigit (slice_index text 1) && is_ascii_hexdigit (slice_index text 2)
    && (length text == 3 || slice_index text 3 == 32)

-- the byte of these digits
abbrev pub byte_of : List ℕ → ℕ
byte_of text = 16 * digit_value (slice_index text 1) + digit_value (slice_index text 2)

-- the bytes at the front of a text, at most so many
unfoldable pub bytes_in : ℕ → List ℕ → List ℕ
bytes_in zero text = []
bytes_in (suc most) text = if is_byte text then byte_of text ∷ bytes_in most (drop 3 text) else []

-- ---- lines with bytes: spaces, the hexadecimal digits of an offset, a colon, and bytes

abbrev pub unindented : List ℕ → List ℕ
unindented line = drop (length (take_while (λ c. c == 32) line)) line

abbrev pub digits_of : List ℕ → List ℕ
digits_of line = take_while is_ascii_hexdigit (unindented line)

-- the text after the colon
abbrev pub rest_of : List ℕ → List ℕ
rest_of line = drop (length (digits_of line) + 1) (unindented line)

abbrev pub is_data : List ℕ → Bool
is_data line = slice_index line 0 == 32
    && nat_lt 0 (length (digits_of line))
    && slice_index (unindented line) (length (digits_of line)) == 58
    && is_byte (rest_of line)
