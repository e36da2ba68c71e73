-- Paths as texts: an optional `\`, and then parts with dots between them.
use Rattle.std.specs.Prelude.{◌≢◌, ℕ, ◌/◌, ◌==◌, ◌&&◌, ◌||◌, nat_le, Bool, true, false}
use Rattle.std.specs.Prelude.{if◌then◌else◌, List, [], ◌∷◌, ◌++◌, length, Option, Some, None}
use Rattle.std.specs.List.{concat}
use Rattle.acpi_base.specs.declared.error.Error.{Error}
use Rattle.acpi_base.specs.declared.error.Error.TheVariants.{NamePart, PathParts}
use Rattle.acpi_base.specs.Object.{Object, whole, ended}
use Rattle.acpi_term.specs.Name.{is_segment}

abbrev pub begun : ℕ → List (List ℕ) → List (List ℕ)
begun b [] = (b ∷ []) ∷ []
begun b (p ∷ ps) = (b ∷ p) ∷ ps

-- the parts between dots
abbrev pub parts : List ℕ → List (List ℕ)
parts [] = [] ∷ []
parts (b ∷ text) = if b == 0x2e then [] ∷ parts text else begun b (parts text)

-- parts with dots between them
abbrev pub with_dots : List (List ℕ) → List ℕ
with_dots [] = []
with_dots (p ∷ []) = p
with_dots (p ∷ q ∷ ps) = p ++ 0x2e ∷ with_dots (q ∷ ps)

abbrev pub IsDotless : List ℕ → Type 0
IsDotless [] = Unit {0}
IsDotless (b ∷ p) = (b ≢ 0x2e) × IsDotless p

abbrev pub AreDotless : List (List ℕ) → Type 0
AreDotless [] = Unit {0}
AreDotless (p ∷ ps) = IsDotless p × AreDotless ps

-- each part has four bytes
abbrev pub are_fours : List (List ℕ) → Bool
are_fours [] = true
are_fours (p ∷ ps) = length p == 4 && are_fours ps

-- a part that is a standard segment
abbrev pub is_standard : List ℕ → Bool
is_standard (a ∷ b ∷ c ∷ d ∷ []) = is_segment a b c d
is_standard _ = false

abbrev pub are_standard : List (List ℕ) → Bool
are_standard [] = true
are_standard (p ∷ ps) = is_standard p && are_standard ps

-- whether one of four bytes is a dot
abbrev pub dotted : ℕ → ℕ → ℕ → ℕ → Bool
dotted a b c d = a == 0x2e || b == 0x2e || c == 0x2e || d == 0x2e

abbrev pub is_rooted : List ℕ → Bool
is_rooted [] = false
is_rooted (b ∷ text) = b == 0x5c

-- the root of a text, if it has one
abbrev pub root : List ℕ → List ℕ
root text = if is_rooted text then 0x5c ∷ [] else []

abbrev pub unrooted : List ℕ → List ℕ
unrooted [] = []
unrooted (b ∷ text) = if b == 0x5c then text else b ∷ text

-- the bytes before this many segments (ACPI 6.5, 20.2.2): none, DualNamePrefix, or MultiNamePrefix and their number
abbrev pub lead : ℕ → List ℕ
lead n = if n == 1 then [] else (if n == 2 then 0x2e ∷ [] else 0x2f ∷ n ∷ [])

-- whether bytes are standard segments, one after the other
abbrev pub are_segments : List ℕ → Bool
are_segments [] = true
are_segments (a ∷ b ∷ c ∷ d ∷ s) = is_segment a b c d && are_segments s
are_segments _ = false

-- the name of these segments, from the root or without it; bytes that aren't 1 to 255 standard segments have none
abbrev pub name_of_segments : Bool → List ℕ → Option (List ℕ)
name_of_segments from_root s =
    if are_segments s && nat_le 1 (length s / 4) && nat_le (length s / 4) 255
    then Some ((if from_root then 0x5c ∷ [] else []) ++ (lead (length s / 4) ++ s)) else None

-- A part without four bytes is reported before too many parts.
abbrev pub parts_end : List (List ℕ) → Option Error
parts_end ps = if are_fours ps then (if nat_le (length ps) 255 then None else Some PathParts) else Some NamePart

-- the bytes of the path of a text
abbrev pub path_spelling : List ℕ → List ℕ
path_spelling text = root text ++ (lead (length (parts (unrooted text))) ++ concat (parts (unrooted text)))

-- the path of a text, as an object
abbrev pub path_of : List ℕ → Object
path_of text = ended (parts_end (parts (unrooted text))) (whole (path_spelling text))

-- a text of 1 to 255 standard segments
abbrev pub is_name_text : List ℕ → Bool
is_name_text text = are_standard (parts (unrooted text)) && nat_le (length (parts (unrooted text))) 255
