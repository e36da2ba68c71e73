-- Names as texts (ACPI 6.5, 20.2.2, NameString): an optional `\` or any number of `^`, and then segments with dots between them,
-- or nothing after these.
use Rattle.std.specs.Prelude.{ℕ, ◌==◌, ◌&&◌, ◌||◌, nat_le, Bool, true, false, if◌then◌else◌, List, [], ◌∷◌, ◌++◌, length}
use Rattle.std.specs.List.{concat}
use Rattle.acpi_base.specs.Object.{Object, whole, ended}
use Rattle.acpi_term.specs.Name.{begins_up, without_parents}
use Rattle.acpi_term.specs.PathText.{parts, are_standard, root, unrooted, lead, parts_end}

-- the `^` at the beginning of a text
abbrev pub parents : List ℕ → List ℕ
parents [] = []
parents (b ∷ text) = if b == 0x5e then 0x5e ∷ parents text else []

-- the `\` or the `^` at the beginning of a text
abbrev pub prefix : List ℕ → List ℕ
prefix text = if begins_up text then parents text else root text

-- what comes after it
abbrev pub unprefixed : List ℕ → List ℕ
unprefixed text = if begins_up text then without_parents text else unrooted text

-- nothing comes after a prefix
abbrev pub is_null : List ℕ → List ℕ → Bool
is_null (b ∷ before) [] = true
is_null _ _ = false

-- the name of a text after these bytes, by its segments
abbrev pub segments_after : List ℕ → List ℕ → Object
segments_after before text =
    ended (parts_end (parts text)) (whole (before ++ (lead (length (parts text)) ++ concat (parts text))))

-- NullName, or the name by its segments
abbrev pub name_after : List ℕ → List ℕ → Object
name_after before text = if is_null before text then whole (before ++ 0x00 ∷ []) else segments_after before text

-- the name of a text, as an object
unfoldable pub name_of : List ℕ → Object
name_of text = name_after (prefix text) (unprefixed text)

-- a text of 1 to 255 standard segments, or of none after a prefix
abbrev pub is_standard_text : List ℕ → Bool
is_standard_text text = is_null (prefix text) (unprefixed text)
    || (are_standard (parts (unprefixed text)) && nat_le (length (parts (unprefixed text))) 255)
