-- What the value of a field means.
use Rattle.std.specs.Prelude.{ℕ, ◌-◌, ◌/◌, ◌==◌, nat_lt, nat_le, ◌&&◌, not, bit_and, Bool, true, false, if◌then◌else◌}
use Rattle.std.specs.Prelude.{List, [], ◌∷◌, ◌++◌, length, codes, Option, Some, None}
use Rattle.std.specs.Fmt.{decimal}
use Rattle.acpi_base.specs.Bytes.{le, carried}
use Rattle.acpi_base.specs.Look.{Look, Part, one_flag, one_choice, one_number}
use Rattle.acpi_base.specs.Look as looks
use Rattle.acpi_text.specs.Hex.{number_text}
use Rattle.acpi_text.specs.Label.{label, all_print}

-- a number of two digits or more, in decimal
abbrev pub decimal_text : ℕ → List ℕ
decimal_text n = if nat_lt n 10 then [] else codes "  // " ++ decimal n

-- bytes without the zeros at their end
abbrev pub trimmed : List ℕ → List ℕ
trimmed [] = []
trimmed (b ∷ bytes) = if b == 0 && length (trimmed bytes) == 0 then [] else b ∷ trimmed bytes

-- ---- numbers with words

-- the name of a number
abbrev pub find_word : List (ℕ × List ℕ) → ℕ → Option (List ℕ)
find_word [] n = None
find_word (word ∷ words) n = if n == word.0 then Some word.1 else find_word words n

-- a name, or else the number
abbrev pub word_text : Option (List ℕ) → ℕ → List ℕ
word_text (Some name) n = codes "  // " ++ label name
word_text None n = decimal_text n

-- ---- bits

-- one more thing that a comment says, after a bar if it isn't the first
abbrev pub said : Bool → List ℕ → List ℕ
said first what = (if first then codes "  // " else codes " | ") ++ what

-- a number without the bits of a mask
abbrev pub without : ℕ → ℕ → ℕ
without mask n = n - bit_and n mask

-- what is left of a number once all its bits that have names are said: nothing, or its bytes in hexadecimal
abbrev pub rest_text : Bool → ℕ → List ℕ
rest_text first n = if n == 0 then [] else said first (codes "0x" ++ number_text (trimmed (le 8 n)))

-- the word of bits that have one
abbrev pub choice_text : (Bool → ℕ → List ℕ) → Bool → ℕ → Option (List ℕ) → ℕ → List ℕ
choice_text others first mask (Some name) n = said first (label name) ++ others false (without mask n)
choice_text others first mask None n = others first n

-- The names of the flags that are set, the words and the numbers of other bits, and what is left. `first` says whether nothing
-- was said before.
abbrev pub bits_text : List Part → Bool → ℕ → List ℕ
bits_text [] first n = rest_text first n
bits_text (one_flag mask name ∷ parts) first n =
    if bit_and n mask == 0 then bits_text parts first n
    else said first (label name) ++ bits_text parts false (without mask n)
bits_text (one_choice mask words ∷ parts) first n =
    choice_text (λ one m. bits_text parts one m) first mask (find_word words (bit_and n mask)) n
bits_text (one_number mask lowest name ∷ parts) first n =
    said first (label name ++ (32 ∷ decimal (bit_and n mask / lowest))) ++ bits_text parts false (without mask n)

-- ---- fields

abbrev pub number_meaning : Look → ℕ → List ℕ
number_meaning looks.number n = decimal_text n
number_meaning (looks.preset value) n = decimal_text n
number_meaning looks.reference n = decimal_text n
number_meaning (looks.flags parts) n = bits_text parts true n
number_meaning (looks.one_of words) n = word_text (find_word words n) n
number_meaning look n = []

-- characters that all print, between quotation marks
abbrev pub quoted : List ℕ → List ℕ
quoted text = if not (length text == 0) && all_print text then codes "  // \"" ++ (text ++ codes "\"") else []

-- What the n numbers of w bytes of a field mean: one number by its look, and a text without the zeros at its end.
abbrev pub meaning : Look → ℕ → ℕ → List ℕ → List ℕ
meaning looks.text w n field = quoted (trimmed field)
meaning look w n field = if n == 1 && nat_le w 8 then number_meaning look (carried field) else []
