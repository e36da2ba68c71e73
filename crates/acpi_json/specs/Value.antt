-- The value of a field, and what it means.
use Rattle.std.specs.Prelude.{ℕ, ◌/◌, ◌==◌, nat_le, ◌&&◌, bit_and, Bool, true, false, if◌then◌else◌}
use Rattle.std.specs.Prelude.{List, [], ◌∷◌, ◌++◌, length, codes, Option, Some, None}
use Rattle.std.specs.Fmt.{decimal}
use Rattle.acpi_base.specs.Bytes.{le, carried}
use Rattle.acpi_base.specs.Look.{Look, Part, one_flag, one_choice, one_number}
use Rattle.acpi_base.specs.Look as looks
use Rattle.acpi_json.specs.Number.{number, numbers}
use Rattle.acpi_json.specs.Text.{separator, characters, string, digits_string}
use Rattle.acpi_text.specs.Hex.{number_text}
use Rattle.acpi_text.specs.Note.{find_word, trimmed, without}

-- ---- the value

-- one number of w bytes, or a list of such numbers
abbrev pub number_or_list : ℕ → List ℕ → List ℕ
number_or_list w bytes =
    if length bytes == w then number bytes else codes "[" ++ numbers true w (length bytes / w) bytes ++ codes "]"

-- Characters are a string without the zeros at their end, bytes one of hexadecimal digits, and all else numbers.
abbrev pub value : Look → ℕ → List ℕ → List ℕ
value looks.text w bytes = string (trimmed bytes)
value looks.bytes w bytes = digits_string bytes
value looks.uuid w bytes = digits_string bytes
value looks.register w bytes = digits_string bytes
value looks.reserved w bytes = digits_string bytes
value look w bytes = number_or_list w bytes

-- ---- what it means

-- the name of a number that stands for one of several things
abbrev pub word_member : Option (List ℕ) → List ℕ
word_member (Some name) = codes ",\"meaning\":" ++ string name
word_member None = []

-- one more thing that a list says
abbrev pub said : Bool → List ℕ → List ℕ
said first what = separator first ++ what

-- bits of which nothing was said, in hexadecimal
abbrev pub rest : Bool → ℕ → List ℕ
rest first n = if n == 0 then [] else said first (codes "\"0x" ++ number_text (trimmed (le 8 n)) ++ codes "\"")

-- a name and a number
abbrev pub named_number : List ℕ → ℕ → List ℕ
named_number name n = 34 ∷ (characters name ++ (32 ∷ (decimal n ++ 34 ∷ [])))

-- the word of bits that have one
abbrev pub choice : (Bool → ℕ → List ℕ) → Bool → ℕ → Option (List ℕ) → ℕ → List ℕ
choice others first mask (Some name) n = said first (string name) ++ others false (without mask n)
choice others first mask None n = others first n

-- The names of the flags that are set, the words and the numbers of other bits, and the bits that are left. `first` says whether
-- nothing was said before.
abbrev pub bits : List Part → Bool → ℕ → List ℕ
bits [] first n = rest first n
bits (one_flag mask name ∷ parts) first n =
    if bit_and n mask == 0 then bits parts first n else said first (string name) ++ bits parts false (without mask n)
bits (one_choice mask words ∷ parts) first n =
    choice (λ one m. bits parts one m) first mask (find_word words (bit_and n mask)) n
bits (one_number mask lowest name ∷ parts) first n =
    said first (named_number name (bit_and n mask / lowest)) ++ bits parts false (without mask n)

-- the member that says what a number means, if there is one
abbrev pub number_meaning : Look → ℕ → List ℕ
number_meaning (looks.one_of words) n = word_member (find_word words n)
number_meaning (looks.flags parts) n = codes ",\"bits\":[" ++ bits parts true n ++ codes "]"
number_meaning look n = []

-- what the numbers of a field mean: only one of eight bytes or less means something
abbrev pub meaning : Look → ℕ → List ℕ → List ℕ
meaning look w bytes = if length bytes == w && nat_le w 8 then number_meaning look (carried bytes) else []
