-- The text of tables, as `acpidump` writes it.
use Rattle.std.specs.Prelude.{ℕ, zero, suc, ◌+◌, ◌-◌, ◌*◌, ◌/◌, ◌%◌, nat_le, ◌&&◌, if◌then◌else◌, List, [], ◌∷◌, ◌++◌, length}
use Rattle.std.specs.Prelude.{take, drop, replicate, map, true, codes}
use Rattle.std.specs.Fmt.{digit_glyph, digits}

-- the name and the bytes of a table
pub record Named : Type 0 where
  pub name : List ℕ
  pub bytes : List ℕ

-- the line before a table, with the address 0
abbrev pub title_line : List ℕ → List ℕ
title_line name = name ++ codes " @ 0x0000000000000000"

-- the hexadecimal digits of an offset, at least four
abbrev pub offset_digits : ℕ → List ℕ
offset_digits offset = replicate (4 - length (digits 16 true offset)) 48 ++ digits 16 true offset

-- the two digits of each byte, with a space before them
abbrev pub bytes_text : List ℕ → List ℕ
bytes_text [] = []
bytes_text (b ∷ bytes) = 32 ∷ digit_glyph true (b / 16) ∷ digit_glyph true (b % 16) ∷ bytes_text bytes

-- a byte as a character, or a dot if it isn't printable
abbrev pub character : ℕ → ℕ
character b = if nat_le 32 b && nat_le b 126 then b else 46

-- The line of 1 to 16 bytes: an offset that ends in column 8, a colon, the bytes, and their characters from column 60 on. An
-- offset of more than seven digits has one space before it.
abbrev pub bytes_line : ℕ → List ℕ → List ℕ
bytes_line offset bytes =
    32 ∷ (replicate (7 - length (offset_digits offset)) 32 ++ (offset_digits offset ++ (58 ∷ (bytes_text bytes
    ++ (32 ∷ 32 ∷ (replicate (3 * (16 - length bytes)) 32 ++ map character bytes))))))

-- the lines of bytes from this offset on, with 16 bytes each, and at most so many lines
abbrev pub bytes_lines : ℕ → ℕ → List ℕ → List (List ℕ)
bytes_lines zero offset bytes = []
bytes_lines (suc most) offset [] = []
bytes_lines (suc most) offset (b ∷ bytes) =
    bytes_line offset (take 16 (b ∷ bytes)) ∷ bytes_lines most (offset + 16) (drop 16 (b ∷ bytes))

-- the lines of tables: the title, the bytes and a blank line for each
abbrev pub table_lines : List Named → List (List ℕ)
table_lines [] = []
table_lines (table ∷ tables) =
    title_line table.name ∷ (bytes_lines (length table.bytes) 0 table.bytes ++ ([] ∷ table_lines tables))

-- lines, each with a line feed at its end
abbrev pub text_of : List (List ℕ) → List ℕ
text_of [] = []
text_of (line ∷ lines) = line ++ (10 ∷ text_of lines)

abbrev pub dump_text : List Named → List ℕ
dump_text tables = text_of (table_lines tables)
