-- The number that has to stand in the field of a line, where the text states another.
use Rattle.std.specs.Prelude.{ℕ, ◌+◌, ◌^◌, ◌==◌, nat_le, nat_lt, not, ◌&&◌, Bool, if◌then◌else◌, List, [], ◌∷◌, drop}
use Rattle.std.specs.Prelude.{Option, Some, None}
use Rattle.acpi_base.specs.Walk.{place_offset, place_width}
use Rattle.acpi_base.specs.declared.walk.Place.{Place}
use Rattle.acpi_text.specs.declared.form.StructureForm.{StructureForm}
use Rattle.acpi_make.specs.Entry.{Entry, find_anywhere}
use Rattle.acpi_make.specs.Fault.{Fault, another}
use Rattle.acpi_make.specs.Heading.{by_heading, known_front, has_number}
use Rattle.acpi_make.specs.Source.{Source}
use Rattle.acpi_make.specs.Text.{part_at, after_offset, are_white}
use Rattle.acpi_make.specs.declared.draft.Mark.{Mark}
use Rattle.acpi_make.specs.declared.draft.Mark.TheVariants.{Structure, Line, Reference}
use Rattle.acpi_make.specs.declared.item.Cell.{Cell}
use Rattle.acpi_text.specs.Structure.{all_forms}

-- the range of the name of the last line that begins at an offset
abbrev pub last_line : ℕ → Option (ℕ × ℕ) → List Mark → Option (ℕ × ℕ)
last_line offset last [] = last
last_line offset last (Structure at from to ∷ marks) = last_line offset last marks
last_line offset last (Line at from to ∷ marks) = last_line offset (if at == offset then Some (from, to) else last) marks
last_line offset last (Reference at w from to ∷ marks) = last_line offset last marks

-- the fault of a line whose field has to have the number n
abbrev pub another_of : ℕ → ℕ → ℕ → Option (ℕ × Entry) → Option Fault
another_of from to n (Some found) = Some (another from to found.1.name n)
another_of from to n None = None

-- the same, where a form has a field of the line's name
abbrev pub another_in : Source → ℕ → Option (ℕ × ℕ) → Option Fault
another_in s n (Some range) =
    let name = after_offset (part_at range.0 range.1 s.text) in
    if are_white name then None else another_of range.0 range.1 n (find_anywhere name s.form)
another_in s n None = None

-- the fault of the line at an offset
abbrev pub another_at : Source → List Mark → ℕ → ℕ → Option Fault
another_at s marks offset n = another_in s n (last_line offset None marks)

-- whether cells begin with w known bytes, which aren't those of the number n
abbrev pub is_other : ℕ → ℕ → List Cell → Bool
is_other w n cells = nat_le w (known_front cells) && not (has_number w n cells)

-- whether all bytes of a structure's type are known, and it isn't n
abbrev pub is_other_type : Place → ℕ → List Cell → Bool
is_other_type kind n cells = is_other (place_width kind) n (drop (place_offset kind) cells)

-- The fault of a type, where a structure with these bytes has the heading of another. No structure begins at 2^62 or after it.
abbrev pub another_type : Source → List Mark → ℕ → List Cell → Option StructureForm → Option Fault
another_type s marks start cells (Some form) =
    if nat_lt start (2 ^ 62) && is_other_type s.kind form.number cells
    then another_at s marks (start + place_offset s.kind) form.number
    else None
another_type s marks start cells None = None

-- the fault of a structure that begins at an offset, and whose heading is that of another type
abbrev pub misnamed : Source → List Mark → ℕ → List Cell → List ℕ → Option Fault
misnamed s marks start cells heading = another_type s marks start cells (by_heading heading (all_forms s.form))
