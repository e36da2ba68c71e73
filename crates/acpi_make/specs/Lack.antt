-- What a table or a structure lacks, by the lines that a text has for it.
use Rattle.std.specs.Prelude.{ℕ, zero, suc, ◌+◌, ◌-◌, ◌*◌, ◌==◌, nat_le, not, ◌&&◌, Bool, true, false, if◌then◌else◌}
use Rattle.std.specs.Prelude.{List, [], ◌∷◌, drop, Option, Some, None}
use Rattle.std.specs.List.{slice_range}
use Rattle.acpi_base.specs.Fields.{row_name, row_width}
use Rattle.acpi_base.specs.Walk.{place_offset, place_width}
use Rattle.acpi_base.specs.declared.row.Row.{Row}
use Rattle.acpi_base.specs.declared.row.Row.TheVariants as rows
use Rattle.acpi_base.specs.declared.walk.Place.{Place}
use Rattle.acpi_text.specs.declared.form.Choice.{Choice}
use Rattle.acpi_text.specs.declared.form.Count.TheVariants.{Field}
use Rattle.acpi_text.specs.declared.form.Inner.{Inner}
use Rattle.acpi_text.specs.declared.form.Inner.TheVariants.{Nothing, Lists}
use Rattle.acpi_text.specs.declared.form.InnerForm.{InnerForm}
use Rattle.acpi_text.specs.declared.form.InnerList.{InnerList}
use Rattle.acpi_text.specs.declared.form.Part.{Part}
use Rattle.acpi_text.specs.declared.form.Part.TheVariants.{Fields, Between, Group, Entries, Numbers, Matrix, Chosen}
use Rattle.acpi_make.specs.Draft.{first_of}
use Rattle.acpi_make.specs.Entry.{is_line_of}
use Rattle.acpi_make.specs.Fault.{Fault, fault, whole, wide}
use Rattle.acpi_make.specs.Heading.{has_number, is_field}
use Rattle.acpi_make.specs.Inner.{titled}
use Rattle.acpi_make.specs.Own.{next_line}
use Rattle.acpi_make.specs.Text.{part_at, after_offset}
use Rattle.acpi_make.specs.declared.draft.Mark.{Mark}
use Rattle.acpi_make.specs.declared.draft.Mark.TheVariants.{Structure, Line, Reference}
use Rattle.acpi_make.specs.declared.fault.Wanted.TheVariants.{Indented}
use Rattle.acpi_make.specs.declared.item.Cell.{Cell}
use Rattle.acpi_make.specs.declared.lack.Fit.{Fit}
use Rattle.acpi_make.specs.declared.lack.Fit.TheVariants.{Leaves, Lacks, Depends}
use Rattle.acpi_make.specs.declared.lack.Lines as declared

-- The lines of a table or a structure: the text, the structures within it, the marks from the first of its lines on, the parts of
-- its form, its bytes and those after it, and the number of all bytes of the table.
pub record Lines : Type 0 where
  pub text : List ℕ
  pub lists : List InnerList
  pub marks : List Mark
  pub parts : List Part
  pub cells : List Cell
  pub total : ℕ

abbrev pub lines_in : declared.Lines → Lines
lines_in l = record {
  text = l.text.now;
  lists = l.lists.now;
  marks = l.marks.now;
  parts = l.parts.now;
  cells = l.cells.now;
  total = l.total;
}

abbrev pub lists_of : Inner → List InnerList
lists_of Nothing = []
lists_of (Lists start lists) = lists.now

-- ---- the lines of lists

-- whether a line is the name of a structure within another
abbrev pub is_titled : Option InnerForm → Bool
is_titled (Some form) = true
is_titled None = false

-- how many lines have a name, up to the next structure, or the next structure within
abbrev pub lines_within : List ℕ → List InnerList → List ℕ → List Mark → ℕ
lines_within text lists name [] = 0
lines_within text lists name (Structure at from to ∷ marks) = 0
lines_within text lists name (Line at from to ∷ marks) =
    if is_titled (titled (after_offset (part_at from to text)) lists) then 0
    else (if is_line_of name (after_offset (part_at from to text)) then 1 else 0) + lines_within text lists name marks
lines_within text lists name (Reference at w from to ∷ marks) = lines_within text lists name marks

abbrev pub lines_of : Lines → List ℕ → ℕ
lines_of l name = lines_within l.text l.lists name l.marks

-- how many lines of a name there are, if one place is another
abbrev pub lines_at : Lines → List ℕ → Place → Place → Option ℕ
lines_at l name one other = if place_offset one == place_offset other then Some (lines_of l name) else None

-- how many lines there are of a part, if the field at this place has their number
abbrev pub lines_counted : Lines → Place → Part → Option ℕ
lines_counted l place (Entries name (Field counted) rows) = lines_at l name.now counted place
lines_counted l place (Numbers name width (Field counted)) = lines_at l name.now counted place
lines_counted l place (Matrix name width counted columns) = lines_at l name.now counted place
lines_counted l place part = None

abbrev pub or_number : Option ℕ → ℕ → ℕ
or_number (Some n) other = n
or_number None other = other

-- how many lines the text has of what the field at a place counts
abbrev pub counted_at : Lines → Place → List Part → ℕ
counted_at l place [] = 0
counted_at l place (part ∷ parts) = or_number (lines_counted l place part) (counted_at l place parts)

-- ---- room for fields

-- What a number of bytes is for some fields:
-- - leaves: it has room for them, and this many bytes are left;
-- - lacks: it lacks some, of which the first has this name and this width;
-- - depends: the fields depend on others.
pub data Room : Type 0 where
  leaves : ℕ → Room
  lacks : List ℕ → ℕ → Room
  depends : Room

abbrev pub fit_of : Fit → Room
fit_of (Leaves n) = leaves n
fit_of (Lacks name width) = lacks name.now width
fit_of Depends = depends

abbrev pub room_then : Room → (ℕ → Room) → Room
room_then (leaves n) others = others n
room_then (lacks name width) others = lacks name width
room_then depends others = depends

-- n bytes for the fields of these rows
abbrev pub room : ℕ → List Row → Room
room n [] = leaves n
room n (row ∷ rows) =
    if nat_le (row_width row) n then room (n - row_width row) rows else lacks (row_name row) (row_width row)

-- those for k entries
abbrev pub entries_room : ℕ → ℕ → List Row → Room
entries_room n zero rows = leaves n
entries_room n (suc k) rows = room_then (room n rows) (λ m. entries_room m k rows)

-- those for k rows of a matrix
abbrev pub matrix_room : ℕ → ℕ → ℕ → List Row → Room
matrix_room n zero columns rows = leaves n
matrix_room n (suc k) columns rows = room_then (entries_room n columns rows) (λ m. matrix_room m k columns rows)

-- The choice whose number the field at this place of a structure has, if the text has the bytes of this field.
abbrev pub known_choice : Place → List Choice → List Cell → Option Choice
known_choice by [] cells = None
known_choice by (choice ∷ choices) cells =
    if has_number (place_width by) choice.number (drop (place_offset by) cells) then Some choice
    else known_choice by choices cells

-- those for the fields of a choice
abbrev pub choice_room : ℕ → Option Choice → Room
choice_room n (Some choice) = room n choice.rows.now
choice_room n None = depends

-- Those for a part, whose size may depend on other fields. A list has as many entries as the text has lines of its name, and a
-- matrix as many rows and columns as the text has lines of what counts them.
abbrev pub part_room : Lines → ℕ → Part → Room
part_room l n (Fields rows) = room n rows.now
part_room l n (Between rows from to) = room n (slice_range rows.now from to)
part_room l n (Group name rows) = room n rows.now
part_room l n (Entries name count rows) = entries_room n (lines_of l name.now) rows.now
part_room l n (Numbers name width count) = entries_room n (lines_of l name.now) (rows.Number name width ∷ [])
part_room l n (Matrix name width height columns) =
    matrix_room n (counted_at l height l.parts) (counted_at l columns l.parts) (rows.Number name width ∷ [])
part_room l n (Chosen by choices) = choice_room n (known_choice by choices.now l.cells)
part_room l n part = depends

-- The first field at the front of these parts that n bytes lack: before the first part whose size depends on other fields.
abbrev pub first_lacking : Lines → ℕ → List Part → Room
first_lacking l n [] = leaves n
first_lacking l n (part ∷ parts) = room_then (part_room l n part) (λ m. first_lacking l m parts)

-- ---- rows of a matrix

-- the first row that hasn't this many bytes
abbrev pub uneven_row : Lines → List ℕ → ℕ → List Mark → Option Fault
uneven_row l name size [] = None
uneven_row l name size (Structure at from to ∷ marks) = None
uneven_row l name size (Line at from to ∷ marks) =
    if is_titled (titled (after_offset (part_at from to l.text)) l.lists) then None
    else (if is_line_of name (after_offset (part_at from to l.text)) && not (next_line marks l.total - at == size)
    then Some (wide from to name size (next_line marks l.total - at))
    else uneven_row l name size marks)
uneven_row l name size (Reference at w from to ∷ marks) = uneven_row l name size marks

-- the size of a row, or the number of all bytes if that is less: no row has so many
abbrev pub row_size : ℕ → ℕ → ℕ
row_size size total = if nat_le size total then size else total

abbrev pub uneven_part : Lines → Part → Option Fault
uneven_part l (Matrix name width height columns) =
    uneven_row l name.now (row_size (width * counted_at l columns l.parts) l.total) l.marks
uneven_part l part = None

-- the first row that hasn't a number for each column
abbrev pub uneven : Lines → List Part → Option Fault
uneven l [] = None
uneven l (part ∷ parts) = first_of (uneven_part l part) (uneven l parts)

-- ---- what is lacking

-- the range of what comes after the lines: the next structure, or the next one within; empty at the end of the text
abbrev pub next_heading : Lines → List Mark → ℕ × ℕ
next_heading l [] = (0, 0)
next_heading l (Structure at from to ∷ marks) = (from, to)
next_heading l (Line at from to ∷ marks) =
    if is_titled (titled (after_offset (part_at from to l.text)) l.lists) then (from, to) else next_heading l marks
next_heading l (Reference at w from to ∷ marks) = next_heading l marks

-- A field that isn't there, at what stands in its place. This may be a field without white space before it.
abbrev pub lacking : Lines → ℕ → ℕ → List ℕ → ℕ → Fault
lacking l from to name width =
    if is_field (part_at from to l.text) then fault from to Indented else whole from to name width

abbrev pub lacking_by : Lines → ℕ × ℕ → Room → Option Fault
lacking_by l range (leaves n) = None
lacking_by l range (lacks name width) = Some (lacking l range.0 range.1 name width)
lacking_by l range depends = None

-- Where an entry of a list ends, and the range of what comes after it: the next line of its name, or the next heading. `end` is
-- where the table or the structure ends.
abbrev pub entry_end : Lines → List ℕ → ℕ → List Mark → ℕ × (ℕ × ℕ)
entry_end l name end [] = (end, (0, 0))
entry_end l name end (Structure at from to ∷ marks) = (end, (from, to))
entry_end l name end (Line at from to ∷ marks) =
    if is_titled (titled (after_offset (part_at from to l.text)) l.lists) then (end, (from, to))
    else (if is_line_of name (after_offset (part_at from to l.text)) then (at, (from, to)) else entry_end l name end marks)
entry_end l name end (Reference at w from to ∷ marks) = entry_end l name end marks

-- the first entry of a list that lacks a field
abbrev pub short_entry : Lines → List ℕ → List Row → ℕ → List Mark → Option Fault
short_entry l name rows end [] = None
short_entry l name rows end (Structure at from to ∷ marks) = None
short_entry l name rows end (Line at from to ∷ marks) =
    if is_titled (titled (after_offset (part_at from to l.text)) l.lists) then None
    else (if is_line_of name (after_offset (part_at from to l.text))
    then first_of
    (lacking_by l (entry_end l name end marks).1 (room ((entry_end l name end marks).0 - at) rows))
    (short_entry l name rows end marks)
    else short_entry l name rows end marks)
short_entry l name rows end (Reference at w from to ∷ marks) = short_entry l name rows end marks

abbrev pub part_entries : Lines → ℕ → Part → Option Fault
part_entries l end (Entries name count rows) = short_entry l name.now rows.now end l.marks
part_entries l end part = None

-- the first entry of a list that lacks a field, of all lists of these parts
abbrev pub short_entries : Lines → ℕ → List Part → Option Fault
short_entries l end [] = None
short_entries l end (part ∷ parts) = first_of (part_entries l end part) (short_entries l end parts)

-- what a table or a structure lacks that begins and ends at these offsets: numbers of a row, a field of an entry, or a field
abbrev pub short_of : Lines → ℕ → ℕ → Option Fault
short_of l at end =
    first_of (uneven l l.parts) (first_of
    (short_entries l end l.parts)
    (lacking_by l (next_heading l l.marks) (first_lacking l (end - at) l.parts)))
