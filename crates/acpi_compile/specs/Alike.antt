-- What a text of ASL is but for what means nothing to a compiler: commas before a closing bracket, empty parentheses, and whether
-- the digits of a number are small or capital letters.
use Rattle.std.specs.Prelude.{ℕ, ◌-◌, nat_le, ◌==◌, ◌&&◌, ◌||◌, if◌then◌else◌, List, [], ◌∷◌}
use Rattle.acpi_compile.specs.Squeeze.{is_word}
use Rattle.acpi_compile.specs.declared.alike.Part.{Part}
use Rattle.acpi_compile.specs.declared.alike.Part.TheVariants.{Mark, Name, Number, Text, Escape}

-- ---- what a character is part of

abbrev pub begun : ℕ → Part
begun c =
    if c == 34 then Text
    else (if nat_le 48 c && nat_le c 57 then Number
    else (if is_word c then Name else Mark))

-- what a character is part of, after one that is part of this
abbrev pub next_part : Part → ℕ → Part
next_part Text c = if c == 34 then Mark else (if c == 92 then Escape else Text)
next_part Escape c = Text
next_part Mark c = begun c
next_part Name c = if is_word c then Name else begun c
next_part Number c = if is_word c then Number else begun c

-- ---- what counts

abbrev pub upper : ℕ → ℕ
upper c = if nat_le 97 c && nat_le c 122 then c - 32 else c

-- a space before a word: the word before it isn't part of it
abbrev pub apart : List ℕ → List ℕ
apart [] = []
apart (c ∷ rest) = if is_word c then 32 ∷ c ∷ rest else c ∷ rest

-- a character outside of words, before what counts of those after it
abbrev pub before : ℕ → List ℕ → List ℕ
before c [] = c ∷ []
before c (d ∷ rest) =
    if c == 44 && (d == 41 || d == 125) then d ∷ rest
    else (if c == 40 && d == 41 then apart rest
    else c ∷ d ∷ rest)

abbrev pub counted : Part → ℕ → List ℕ → List ℕ
counted Mark c rest = before c rest
counted Number c rest = upper c ∷ rest
counted _ c rest = c ∷ rest

-- ---- the text

abbrev pub parts_from : Part → List ℕ → List Part
parts_from part [] = []
parts_from part (c ∷ rest) = next_part part c ∷ parts_from (next_part part c) rest

abbrev pub all_counted : List Part → List ℕ → List ℕ
all_counted (part ∷ parts) (c ∷ rest) = counted part c (all_counted parts rest)
all_counted _ _ = []

-- what counts of a text without what a compiler skips
abbrev pub alike : List ℕ → List ℕ
alike kept = all_counted (parts_from Mark kept) kept
