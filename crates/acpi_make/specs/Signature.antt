-- How the table of a text begins: with its signature, or without one.
use Rattle.std.specs.Prelude.{ℕ, ◌||◌, Bool, false, if◌then◌else◌, List, [], ◌∷◌, Option, Some, None}
use Rattle.std.specs.Prelude.{codes}
use Rattle.acpi_base.specs.Bytes.{carried}
use Rattle.acpi_make.specs.Entry.{is_line_of}
use Rattle.acpi_make.specs.Text.{if_some, part_at, after_offset}
use Rattle.acpi_make.specs.declared.item.Cell.TheVariants.{Byte, Left}
use Rattle.acpi_make.specs.declared.item.Item.{Item}
use Rattle.acpi_make.specs.declared.item.Item.TheVariants.{Cell, Heading, Name, Value}

-- the first byte of a text, and what follows it; nothing if the first byte isn't stated
abbrev pub first_byte : List Item → Option (ℕ × List Item)
first_byte [] = None
first_byte (Cell (Byte b) ∷ items) = Some (b, items)
first_byte (Cell (Left place) ∷ items) = None
first_byte (Heading from to ∷ items) = first_byte items
first_byte (Name from to ∷ items) = first_byte items
first_byte (Value from to ∷ items) = None

-- the number of the first four bytes, lowest first
abbrev pub signature_of : List Item → Option ℕ
signature_of items =
    if_some (first_byte items) (λ a.
    if_some (first_byte a.1) (λ b.
    if_some (first_byte b.1) (λ c.
    if_some (first_byte c.1) (λ d.
    Some (carried (a.0 ∷ b.0 ∷ c.0 ∷ d.0 ∷ []))))))

-- whether the first line is that of a field with the name Length: that of a table without a signature
abbrev pub begins_with_length : List ℕ → List Item → Bool
begins_with_length text [] = false
begins_with_length text (Heading from to ∷ items) = begins_with_length text items
begins_with_length text (Name from to ∷ items) = is_line_of (codes "Length") (after_offset (part_at from to text))
begins_with_length text (Cell cell ∷ items) = false
begins_with_length text (Value from to ∷ items) = false

-- whether a text has a line with a name
abbrev pub has_line : List ℕ → List ℕ → List Item → Bool
has_line name text [] = false
has_line name text (Heading from to ∷ items) = has_line name text items
has_line name text (Name from to ∷ items) = is_line_of name (after_offset (part_at from to text)) || has_line name text items
has_line name text (Cell cell ∷ items) = has_line name text items
has_line name text (Value from to ∷ items) = has_line name text items

-- the range of the heading with which a text begins, if it has a name
abbrev pub heading_at : List ℕ → List ℕ → List Item → Option (ℕ × ℕ)
heading_at name text [] = None
heading_at name text (Heading from to ∷ items) = if is_line_of name (part_at from to text) then Some (from, to) else None
heading_at name text (Name from to ∷ items) = None
heading_at name text (Cell cell ∷ items) = None
heading_at name text (Value from to ∷ items) = None
