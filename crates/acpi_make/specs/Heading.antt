-- What a heading says, and which form a structure has.
use Rattle.std.specs.Prelude.{ℕ, zero, suc, ◌+◌, ◌/◌, ◌%◌, ◌==◌, nat_le, ◌&&◌, Bool, true, false, if◌then◌else◌}
use Rattle.std.specs.Prelude.{List, [], ◌∷◌, take, drop, Option, Some, None, codes}
use Rattle.acpi_base.specs.Walk.{place_offset, place_width}
use Rattle.acpi_base.specs.declared.walk.Place.{Place}
use Rattle.acpi_text.specs.Structure.{find_form}
use Rattle.acpi_text.specs.declared.form.StructureForm.{StructureForm}
use Rattle.acpi_make.specs.Entry.{is_line_of}
use Rattle.acpi_make.specs.Text.{is_white, after, digits_front, decimal_of, after_offset, if_some}
use Rattle.acpi_make.specs.declared.item.Cell.{Cell}
use Rattle.acpi_make.specs.declared.item.Cell.TheVariants.{Byte, Left}

-- whether a heading is the line of a field, without white space before it: it has a colon
abbrev pub is_field : List ℕ → Bool
is_field [] = false
is_field (c ∷ heading) = if c == 58 then true else is_field heading

-- ---- labels

-- how many characters stand before the first white space
abbrev pub word_front : List ℕ → ℕ
word_front [] = 0
word_front (c ∷ text) = if is_white c then 0 else 1 + word_front text

-- the label with which a heading begins: what stands between an at sign and a space
abbrev pub label_of : List ℕ → Option (List ℕ)
label_of [] = None
label_of (c ∷ text) = if c == 64 then Some (take (word_front text) text) else None

-- a heading without its label and its offset
abbrev pub unlabelled : List ℕ → List ℕ
unlabelled [] = []
unlabelled (c ∷ text) = if c == 64 then drop (word_front text + 1) text else c ∷ text

abbrev pub described : List ℕ → List ℕ
described heading = after_offset (unlabelled heading)

-- ---- the form that a heading names

abbrev pub find_named : List ℕ → List StructureForm → Option StructureForm
find_named name [] = None
find_named name (form ∷ forms) = if is_line_of form.name.now name then Some form else find_named name forms

-- by the number after the word `type`, or by its name
abbrev pub numbered : List ℕ → List StructureForm → Option StructureForm
numbered text forms = if_some (decimal_of (take (digits_front text) text)) (λ number. find_form number forms)

abbrev pub by_words : Option (List ℕ) → List ℕ → List StructureForm → Option StructureForm
by_words (Some text) name forms = numbered text forms
by_words None name forms = find_named name forms

abbrev pub by_heading : List ℕ → List StructureForm → Option StructureForm
by_heading heading forms = by_words (after (codes "type ") (described heading)) (described heading) forms

-- ---- the form that bytes have

-- how many bytes are known before the first that isn't
abbrev pub known_front : List Cell → ℕ
known_front [] = 0
known_front (Byte b ∷ cells) = 1 + known_front cells
known_front (Left place ∷ cells) = 0

abbrev pub is_known : Cell → Bool
is_known (Byte b) = true
is_known (Left place) = false

-- whether a byte is known, and is the lowest of a number
abbrev pub is_lowest : Cell → ℕ → Bool
is_lowest (Byte b) n = b == n % 256
is_lowest (Left place) n = false

-- whether cells begin with w known bytes of this number, lowest first
abbrev pub has_number : ℕ → ℕ → List Cell → Bool
has_number zero n cells = n == 0
has_number (suc w) n [] = false
has_number (suc w) n (cell ∷ cells) = is_lowest cell n && has_number w (n / 256) cells

abbrev pub by_bytes : ℕ → List Cell → List StructureForm → Option StructureForm
by_bytes w cells [] = None
by_bytes w cells (form ∷ forms) = if has_number w form.number cells then Some form else by_bytes w cells forms

-- The form of a structure whose type is at a place: by its type, if all bytes of the type are known, and else by its heading.
abbrev pub structure_form : Place → List StructureForm → List ℕ → List Cell → Option StructureForm
structure_form kind forms heading cells =
    if nat_le (place_width kind) (known_front (drop (place_offset kind) cells))
    then by_bytes (place_width kind) (drop (place_offset kind) cells) forms
    else by_heading heading forms
