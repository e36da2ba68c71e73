-- The text of ASL without what a compiler skips: white space, comments, and semicolons after statements (ACPI 6.5, 19.2.1 and
-- 19.2.3). One space is left between two words. Of a comment that begins with `/*=` all is kept.
use Rattle.std.specs.Prelude.{ℕ, ◌+◌, ◌-◌, nat_le, nat_lt, ◌==◌, ◌&&◌, ◌||◌, not, Bool, true, false, if◌then◌else◌}
use Rattle.std.specs.Prelude.{List, [], ◌∷◌, ◌++◌, length}
use Rattle.std.specs.Prelude.{nat_eq, take, drop, codes}
use Rattle.std.specs.List.{starts_with}
use Rattle.acpi_compile.specs.declared.squeeze.Last.{Last}
use Rattle.acpi_compile.specs.declared.squeeze.Last.TheVariants.{Mark, Word, Gap}
use Rattle.acpi_compile.specs.declared.squeeze.State.{State}
use Rattle.acpi_compile.specs.declared.squeeze.State.TheVariants.{Code, Slash, Line, Opened, Comment, Star, Note, NoteStar}
use Rattle.acpi_compile.specs.declared.squeeze.State.TheVariants.{Text, Escape}

-- ---- characters

-- a character of a word: of a keyword, a name or a number
abbrev pub is_word : ℕ → Bool
is_word c = (nat_le 65 c && nat_le c 90) || (nat_le 97 c && nat_le c 122) || (nat_le 48 c && nat_le c 57)
    || c == 95 || c == 46 || c == 94 || c == 92

-- white space, or a semicolon
abbrev pub is_white : ℕ → Bool
is_white c = c == 32 || c == 9 || c == 10 || c == 13 || c == 59

-- ---- where the next character stands

-- after what is skipped
abbrev pub gapped : Last → Last
gapped Mark = Mark
gapped _ = Gap

abbrev pub next_in_code : Last → ℕ → State
next_in_code last c =
    if is_white c then Code (gapped last)
    else (if c == 47 then Slash last
    else (if c == 34 then Text
    else (if is_word c then Code Word else Code Mark)))

abbrev pub next_state : State → ℕ → State
next_state (Code last) c = next_in_code last c
next_state (Slash last) c =
    if c == 47 then Line (gapped last) else (if c == 42 then Opened (gapped last) else next_in_code Mark c)
next_state (Line last) c = if c == 10 then Code last else Line last
next_state (Opened last) c = if c == 61 then Note else (if c == 42 then Star last else Comment last)
next_state (Comment last) c = if c == 42 then Star last else Comment last
next_state (Star last) c = if c == 47 then Code last else (if c == 42 then Star last else Comment last)
next_state Note c = if c == 42 then NoteStar else Note
next_state NoteStar c = if c == 47 then Code Mark else (if c == 42 then NoteStar else Note)
next_state Text c = if c == 34 then Code Mark else (if c == 92 then Escape else Text)
next_state Escape c = Text

-- ---- what is kept

-- a character, and a space before it if it begins a word after another word
abbrev pub spaced : Last → ℕ → List ℕ
spaced Gap c = if is_word c then 32 ∷ c ∷ [] else c ∷ []
spaced _ c = c ∷ []

abbrev pub code_bytes : Last → ℕ → List ℕ
code_bytes last c = if is_white c || c == 47 then [] else spaced last c

-- what is kept of a character where it stands
abbrev pub emitted : State → ℕ → List ℕ
emitted (Code last) c = code_bytes last c
emitted (Slash last) c = if c == 47 || c == 42 then [] else 47 ∷ code_bytes Mark c
emitted (Opened last) c = if c == 61 then codes "/*=" else []
emitted Note c = c ∷ []
emitted NoteStar c = c ∷ []
emitted Text c = c ∷ []
emitted Escape c = c ∷ []
emitted _ c = []

-- what is kept at the end of the text
abbrev pub ending : State → List ℕ
ending (Slash last) = codes "/"
ending _ = []

abbrev pub squeezed_from : State → List ℕ → List ℕ
squeezed_from state [] = ending state
squeezed_from state (c ∷ rest) = emitted state c ++ squeezed_from (next_state state c) rest

-- a text without the byte order mark that a program may have written before it
abbrev pub unmarked : List ℕ → List ℕ
unmarked (a ∷ b ∷ c ∷ rest) = if a == 239 && b == 187 && c == 191 then rest else a ∷ b ∷ c ∷ rest
unmarked text = text

abbrev pub squeezed : List ℕ → List ℕ
squeezed text = squeezed_from (Code Mark) (unmarked text)

-- where the end of a text stands, which begins in this state
abbrev pub state_after : State → List ℕ → State
state_after state [] = state
state_after state (c ∷ rest) = state_after (next_state state c) rest

-- in a comment that is skipped up to its `*/`
abbrev pub is_comment : State → Bool
is_comment (Opened last) = true
is_comment (Comment last) = true
is_comment (Star last) = true
is_comment _ = false

-- whether a comment has no `*/`; a note is no such comment
abbrev pub ends_in_comment : List ℕ → Bool
ends_in_comment text = is_comment (state_after (Code Mark) (unmarked text))

-- ---- where a definition block begins

abbrev pub after_white : List ℕ → List ℕ
after_white [] = []
after_white (c ∷ rest) = if is_white c then after_white rest else c ∷ rest

abbrev pub begins_block : List ℕ → Bool
begins_block text =
    starts_with nat_eq text (codes "DefinitionBlock") && starts_with nat_eq (after_white (drop 15 text)) (codes "(")

-- the same of the first word of a line, for a text from here on; the line has white space alone before it, or not
abbrev pub has_block_from : Bool → List ℕ → Bool
has_block_from fresh [] = false
has_block_from fresh (c ∷ rest) =
    (fresh && begins_block (c ∷ rest)) || has_block_from (c == 10 || (fresh && is_white c)) rest

-- whether the first word of a line begins a definition block
abbrev pub has_block : List ℕ → Bool
has_block text = has_block_from true text

-- ---- where a kept character stands

-- how many lines end before what is kept of the character at a place, for a text from this state on
abbrev pub line_from : State → ℕ → List ℕ → ℕ
line_from state at [] = 0
line_from state at (c ∷ rest) =
    if nat_lt at (length (emitted state c)) then 0
    else (if c == 10 then 1 else 0) + line_from (next_state state c) (at - length (emitted state c)) rest

-- the number of its line
abbrev pub line_of : ℕ → List ℕ → ℕ
line_of at text = 1 + line_from (Code Mark) at (unmarked text)

-- ---- words

-- how many characters of a word are at the front
abbrev pub front_len : List ℕ → ℕ
front_len [] = 0
front_len (c ∷ rest) = if is_word c then 1 + front_len rest else 0

-- the number of characters up to the end of a note, or of its line
abbrev pub note_len : List ℕ → ℕ
note_len [] = 0
note_len (a ∷ rest) =
    if starts_with nat_eq (a ∷ rest) (codes "*/") then 2 else (if a == 10 then 0 else 1 + note_len rest)

-- The number of characters up to the quotation mark that ends a string, or up to the end of its line. The first may be escaped.
abbrev pub text_len : Bool → List ℕ → ℕ
text_len escaped [] = 0
text_len escaped (a ∷ rest) =
    if a == 10 then 0
    else (if not escaped && a == 34 then 1
    else 1 + text_len (not escaped && a == 92) rest)

-- whether a note is at the front
abbrev pub begins_note : List ℕ → Bool
begins_note kept = starts_with nat_eq kept (codes "/*=")

-- the number of characters of the word, the string or the note at the front; any other character stands alone
abbrev pub word_len : List ℕ → ℕ
word_len [] = 0
word_len (c ∷ rest) =
    if is_word c then 1 + front_len rest
    else (if c == 34 then 1 + text_len false rest
    else (if begins_note (c ∷ rest) then 1 + note_len rest
    else 1))

-- the word, the string or the note at a place of kept characters; none at their end
abbrev pub word_at : ℕ → List ℕ → List ℕ
word_at at kept = take (word_len (drop at kept)) (drop at kept)
