-- Numbers by name and in decimal.
use Rattle.std.specs.Prelude.{ℕ, zero, suc, ◌-◌, ◌==◌, nat_lt, ◌&&◌, if◌then◌else◌, bit_and, bit_or, List, [], ◌∷◌}
use Rattle.std.specs.Prelude.{length, take, drop}
use Rattle.std.specs.Prelude.{Option, Some, None, codes}
use Rattle.acpi_base.specs.Look.{Look, Part, one_flag, one_choice, one_number}
use Rattle.acpi_base.specs.Look as looks
use Rattle.acpi_make.specs.Text.{after, decimal_of, hex_of}
use Rattle.acpi_make.specs.declared.value.Names.{Names}
use Rattle.acpi_make.specs.declared.value.Names.TheVariants as names

-- what names begin with: no name that is known, the last name, or a name and the names after it; a name has a mask of the bits
-- that it says something of, and its number
pub data Front : Type 0 where
  unnamed : Front
  last : ℕ → ℕ → Front
  more : ℕ → ℕ → List ℕ → Front

-- a name's mask and number, with what stands after the name: nothing, or a bar and names
abbrev pub bar_then : ℕ → ℕ → Option (List ℕ) → Front
bar_then mask n (Some text) = more mask n text
bar_then mask n None = unnamed

abbrev pub name_then : ℕ → ℕ → Option (List ℕ) → Front
name_then mask n (Some []) = last mask n
name_then mask n (Some (c ∷ text)) = bar_then mask n (after (codes " | ") (c ∷ text))
name_then mask n None = unnamed

abbrev pub or_front : Front → Front → Front
or_front unnamed other = other
or_front (last mask n) other = last mask n
or_front (more mask n text) other = more mask n text

-- the front of a text of names, each with its number
abbrev pub front_name : ℕ → List (ℕ × List ℕ) → List ℕ → Front
front_name mask [] text = unnamed
front_name mask (word ∷ words) text = or_front (name_then mask word.0 (after word.1 text)) (front_name mask words text)

-- the front of a text of names of flags, and of words of other bits
abbrev pub front_part : List Part → List ℕ → Front
front_part [] text = unnamed
front_part (one_flag mask name ∷ parts) text = or_front (name_then mask mask (after name text)) (front_part parts text)
front_part (one_choice mask words ∷ parts) text = or_front (front_name mask words text) (front_part parts text)
front_part (one_number mask lowest name ∷ parts) text = front_part parts text

-- ---- flags

-- these bits, and those of a name and of the names after it: a name says nothing of bits that one before it says something of
abbrev pub and_more : Front → ℕ → ℕ → (ℕ → ℕ → List ℕ → Option ℕ) → Option ℕ
and_more unnamed said all rest = None
and_more (last mask n) said all rest = if bit_and said mask == 0 then Some (bit_or all n) else None
and_more (more mask n text) said all rest =
    if bit_and said mask == 0 then rest (bit_or said mask) (bit_or all n) text else None

-- these bits, and those of at most n names
abbrev pub joined : ℕ → ℕ → ℕ → List Part → List ℕ → Option ℕ
joined zero said all parts text = None
joined (suc n) said all parts text =
    and_more (front_part parts text) said all (λ said all text. joined n said all parts text)

-- ---- values

abbrev pub only : Front → Option ℕ
only unnamed = None
only (last mask n) = Some n
only (more mask n text) = None

-- the number of names: flags and words with bars between them, or one value
abbrev pub names_value : Look → List ℕ → Option ℕ
names_value (looks.flags parts) text = if length text == 0 then Some 0 else joined (length text) 0 0 parts text
names_value (looks.one_of words) text = only (front_name 0 words text)
names_value look text = None

-- the number of a value: decimal digits after a number sign, hexadecimal digits after `0x`, or names between braces
abbrev pub value_of : Look → List ℕ → Option ℕ
value_of look [] = None
value_of look (c ∷ text) =
    if c == 35 then decimal_of text
    else (if c == 48 && nat_lt 0 (length text) then hex_of (drop 1 text)
    else names_value look (take (length text - 1) text))

-- ---- what a call returns

abbrev pub front_of : Names → Front
front_of names.Unnamed = unnamed
front_of (names.Last mask n) = last mask n
front_of (names.More mask n text) = more mask n text.now
