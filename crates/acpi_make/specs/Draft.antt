-- A table in the making: the bytes of a text's parts, and marks where structures, lines and references begin.
use Rattle.std.specs.Prelude.{ℕ, ◌-◌, ◌==◌, nat_lt, not, ◌&&◌, ◌||◌, Bool, true, false, if◌then◌else◌}
use Rattle.std.specs.Prelude.{List, [], ◌∷◌, ◌++◌, length, drop, replicate, codes, Option, Some, None, Result, Ok, Err}
use Rattle.acpi_base.specs.Bytes.{le}
use Rattle.acpi_text.specs.Structure.{all_forms, form_parts, form_inner}
use Rattle.acpi_text.specs.declared.form.Inner.{Inner}
use Rattle.acpi_text.specs.declared.form.Part.{Part}
use Rattle.acpi_text.specs.declared.form.StructureForm.{StructureForm}
use Rattle.acpi_make.specs.Entry.{Entry, entry_of, parts_entries, inner_entries, is_line_of, find_entry, next_entry, next_number}
use Rattle.acpi_make.specs.Entry.{is_once, is_register, is_title, title_over, is_found, number_or}
use Rattle.acpi_make.specs.Fault.{Fault, fault_of, fault, next, wide, field_of}
use Rattle.acpi_make.specs.Fits.{fits}
use Rattle.acpi_make.specs.Gives.{and_then}
use Rattle.acpi_make.specs.Heading.{is_field, structure_form}
use Rattle.acpi_make.specs.Item.{known_cells}
use Rattle.acpi_make.specs.Another.{misnamed}
use Rattle.acpi_make.specs.Source.{Source}
use Rattle.acpi_make.specs.Text.{part_at, after_offset, are_white}
use Rattle.acpi_make.specs.Value.{value_of}
use Rattle.acpi_make.specs.declared.draft.Draft.{Draft}
use Rattle.acpi_make.specs.declared.draft.Mark.{Mark}
use Rattle.acpi_make.specs.declared.draft.Mark.TheVariants.{Structure, Line, Reference}
use Rattle.acpi_make.specs.declared.entry.Field.{Field}
use Rattle.acpi_make.specs.declared.fault.Fault as declared
use Rattle.acpi_make.specs.declared.fault.Wanted.{Wanted}
use Rattle.acpi_make.specs.declared.fault.Wanted.TheVariants as wants
use Rattle.acpi_make.specs.declared.item.Cell.{Cell}
use Rattle.acpi_make.specs.declared.item.Cell.TheVariants.{Left}
use Rattle.acpi_make.specs.declared.item.Item.{Item}
use Rattle.acpi_make.specs.declared.item.Item.TheVariants as items

-- A table in the making.
pub record Drafted : Type 0 where
  -- the bytes so far, and the marks in them
  pub cells : List Cell
  pub marks : List Mark
  -- whether the text is in a structure, the offset at which this begins, and the range of its heading
  pub inside : Bool
  pub start : ℕ
  pub from : ℕ
  pub to : ℕ
  -- the number of the field after the last that had a name, and whether bytes without a name came after it
  pub number : ℕ
  pub loose : Bool
  -- the field of the last line with a name, if the form has it, the offset at which this line begins, and the range of its name
  pub field : Option Entry
  pub line_at : ℕ
  pub line_from : ℕ
  pub line_to : ℕ
  -- the first line that isn't as the form has it, and the first of a field that comes too early, or once more
  pub doubt : Option Fault
  pub early : Option Fault

abbrev pub nothing_yet : Drafted
nothing_yet = record {
  cells = [];
  marks = [];
  inside = false;
  start = 0;
  from = 0;
  to = 0;
  number = 0;
  loose = false;
  field = None;
  line_at = 0;
  line_from = 0;
  line_to = 0;
  doubt = None;
  early = None;
}

-- ---- the form of what the text is in

abbrev pub here : Source → Drafted → Option StructureForm
here s d = structure_form s.kind (all_forms s.form) (part_at d.from d.to s.text) (drop d.start d.cells)

abbrev pub parts_here : Source → Drafted → List Part
parts_here s d = if d.inside then form_parts (here s d) else s.form.parts.now

abbrev pub inner_here : Source → Drafted → Inner
inner_here s d = if d.inside then form_inner (here s d) else s.form.inner.now

abbrev pub entries_here : Source → Drafted → List Entry
entries_here s d = parts_entries (parts_here s d) ++ inner_entries (inner_here s d)

abbrev pub name_of_form : Option StructureForm → List ℕ
name_of_form (Some form) = form.name.now
name_of_form None = []

abbrev pub is_none : Option StructureForm → Bool
is_none None = true
is_none (Some form) = false

-- whether the text is in a structure that the table doesn't have
abbrev pub is_strange : Source → Drafted → Bool
is_strange s d = d.inside && is_none (here s d)

-- ---- doubts

-- the first doubt stays
abbrev pub first_of : Option Fault → Option Fault → Option Fault
first_of (Some doubt) other = Some doubt
first_of None other = other

abbrev pub doubted : Option Fault → Drafted → Drafted
doubted other d = record d { doubt = first_of d.doubt other }

-- whether a line of a field has any number of bytes; a name over fields has none
abbrev pub is_any_size : Entry → Bool
is_any_size one = one.size == 0 && not (is_title one)

-- a line whose field has another number of bytes
abbrev pub size_doubt : Option Entry → ℕ → ℕ → ℕ → Option Fault
size_doubt None size from to = None
size_doubt (Some one) size from to =
    if is_any_size one || size == one.size then None else Some (wide from to one.name one.size size)

-- a line ended
abbrev pub closed : Drafted → Drafted
closed d = doubted (size_doubt d.field (length d.cells - d.line_at) d.line_from d.line_to) d

-- the first of two faults in the text; the second one, if both are at one place
abbrev pub earliest : Option Fault → Option Fault → Option Fault
earliest (Some one) (Some other) = if nat_lt other.from one.from then Some one else Some other
earliest (Some one) None = Some one
earliest None other = other

-- what is in doubt at the end of the text
abbrev pub doubt_of : Drafted → Option Fault
doubt_of d = earliest (closed d).doubt d.early

-- whether a line of this name has bytes without a name
abbrev pub is_nameless : List ℕ → Bool
is_nameless name = are_white name || is_line_of (codes "Bytes") name

-- the field that has to stand where a line has another name
abbrev pub unlike : ℕ → ℕ → List ℕ → Option (ℕ × Entry) → Fault
unlike from to form (Some found) = next from to found.1.name found.1.size
unlike from to form None = field_of from to form

-- the name of the form of what the text is in
abbrev pub form_here : Source → Drafted → List ℕ
form_here s d = if d.inside then name_of_form (here s d) else s.form.name.now

-- what is in doubt, or what is wrong
abbrev pub or_fault : Option Fault → Fault → Fault
or_fault (Some doubt) wrong = doubt
or_fault None wrong = wrong

-- whether there is a doubt, after which no other counts
abbrev pub is_doubted : Option Fault → Bool
is_doubted (Some doubt) = true
is_doubted None = false

-- The fault of the type of the structure that the text is in, if its heading is that of another. After a line that comes too
-- early the type may be another field.
abbrev pub misnamed_here : Source → Drafted → Option Fault
misnamed_here s d =
    if d.inside && not (is_doubted d.early)
    then misnamed s d.marks d.start (drop d.start d.cells) (part_at d.from d.to s.text)
    else None

-- the field that has to stand in a line; after bytes without a name it can be any
abbrev pub field_expected : Source → Drafted → ℕ → ℕ → Fault
field_expected s d from to =
    if d.loose then field_of from to (form_here s d)
    else unlike from to (form_here s d) (find_entry 0 d.number [] (entries_here s d))

-- a heading that is no structure's name: it may be the line of a field
abbrev pub strange : ℕ → ℕ → List ℕ → Fault
strange from to text = fault from to (if is_field (part_at from to text) then wants.Indented else wants.Structure)

-- what is wrong with a line that isn't as the form has it: the type before it, the structure's name, or the line itself
abbrev pub expected : Source → Drafted → ℕ → ℕ → Fault
expected s d from to =
    or_fault (misnamed_here s d)
    (if is_strange s d then strange d.from d.to s.text else field_expected s d from to)

-- a field may be left out if its number of bytes can be any, and so may a name over fields that isn't a register's
abbrev pub may_lack : Option (ℕ × Entry) → Bool
may_lack (Some found) = found.1.size == 0 && not (is_register found.1.look)
may_lack None = true

-- whether a line of the field with this number may come here: it is the next one, or one of a list, which comes again
abbrev pub may_come : Source → Drafted → List ℕ → ℕ → Bool
may_come s d name k = if nat_lt k d.number then not (is_once 0 k name (parts_here s d)) else k == d.number

-- a line of a field that comes too early, or once more: another has to stand there
abbrev pub early_doubt : Source → Drafted → ℕ → ℕ → List ℕ → ℕ → Option Fault
early_doubt s d from to name k =
    if is_doubted d.early || may_come s d name k || d.loose || may_lack (find_entry 0 d.number [] (entries_here s d)) then None
    else Some (expected s d from to)

-- a name over fields that has to stand in a line
abbrev pub title_wanted : ℕ → ℕ → Option (ℕ × Entry) → Option Fault
title_wanted from to (Some found) = Some (next from to found.1.name 0)
title_wanted from to None = None

-- the number of the next field of a name after one, or of this one, if there is none
abbrev pub later : Source → Drafted → List ℕ → ℕ → ℕ
later s d name k = number_or (find_entry 0 (next_number k) name (entries_here s d)) k

-- the field of a name that a line is of: one before the last can be one under a name over fields, which comes again
abbrev pub again : Source → Drafted → List ℕ → ℕ → ℕ
again s d name k = if nat_lt k d.number && not (is_found (title_over k (entries_here s d))) then later s d name k else k

-- A line of this field without the name over fields before it, if the form has no other field of its name after it. One before
-- the last has to be one that comes again.
abbrev pub untitled : Source → Drafted → ℕ → ℕ → List ℕ → ℕ → Option Fault
untitled s d from to name k =
    if (nat_lt k d.number && not (may_come s d name k)) || nat_lt k (later s d name k) then None
    else title_wanted from to (title_over k (entries_here s d))

-- a line of a field that isn't the next one, and lacks the name over fields before it
abbrev pub title_doubt : Source → Drafted → ℕ → ℕ → List ℕ → ℕ × Entry → Option Fault
title_doubt s d from to name found =
    if is_doubted d.early || d.loose || found.0 == d.number || is_title found.1 then None
    else untitled s d from to name (again s d name found.0)

-- a line of which the form has no field
abbrev pub name_doubt : Source → Drafted → ℕ → ℕ → List ℕ → Option Fault
name_doubt s d from to name =
    if is_doubted d.doubt || is_nameless name then None
    else (if is_line_of (codes "Signature") name then Some (fault from to wants.OneTable)
    else Some (expected s d from to))

-- ---- names

-- the line of a field, of bytes without a name, or of another name
abbrev pub line_found : Option (ℕ × Entry) → Option Fault → Drafted → Drafted
line_found (Some found) doubt d =
    record d { number = next_number found.0; loose = false; field = Some found.1; early = first_of d.early doubt }
line_found None doubt d = record d { loose = true; field = None; doubt = first_of d.doubt doubt }

-- the field of a line's name
abbrev pub named_field : Source → Drafted → List ℕ → Option (ℕ × Entry)
named_field s d name = if is_nameless name then None else next_entry d.number name (entries_here s d)

-- what is in doubt about a line of this field
abbrev pub line_doubt : Source → Drafted → ℕ → ℕ → List ℕ → Option (ℕ × Entry) → Option Fault
line_doubt s d from to name (Some found) =
    first_of (early_doubt s d from to name found.0) (title_doubt s d from to name found)
line_doubt s d from to name None = name_doubt s d from to name

-- a line begins
abbrev pub opened : ℕ → ℕ → Drafted → Drafted
opened from to d = record d {
  marks = d.marks ++ Line (length d.cells) from to ∷ [];
  line_at = length d.cells;
  line_from = from;
  line_to = to;
}

abbrev pub with_line : Source → ℕ → ℕ → Drafted → Drafted
with_line s from to d =
    let name = after_offset (part_at from to s.text) in
    let found = named_field s d name in
    line_found found (line_doubt s d from to name found) (opened from to (closed d))

-- a structure, or the name of a table before its first byte
abbrev pub with_heading : ℕ → ℕ → Drafted → Drafted
with_heading from to d =
    if length d.cells == 0 then d
    else record (closed d) {
      marks = d.marks ++ Structure (length d.cells) from to ∷ [];
      inside = true;
      start = length d.cells;
      from = from;
      to = to;
      number = 0;
      loose = false;
      field = None;
    }

-- ---- values

abbrev pub with_cells : List Cell → Drafted → Drafted
with_cells cells d = record d { cells = d.cells ++ cells }

abbrev pub wants_in : ℕ → ℕ → Wanted → Drafted → Result Drafted Fault
wants_in from to wanted d = Err (or_fault d.doubt (fault from to wanted))

-- a number of w bytes
abbrev pub with_number : ℕ → ℕ → ℕ → Wanted → Option ℕ → Drafted → Result Drafted Fault
with_number from to w wanted (Some n) d =
    if fits w n then Ok (with_cells (known_cells (le w n)) d) else wants_in from to wanted d
with_number from to w wanted None d = wants_in from to wanted d

-- what has to stand in place of a value that isn't one
abbrev pub wanted_for : List ℕ → Wanted
wanted_for [] = wants.Name
wanted_for (c ∷ value) = if c == 123 then wants.Name else wants.Number

abbrev pub is_reference : List ℕ → Bool
is_reference [] = false
is_reference (c ∷ value) = c == 64

-- a reference: bytes that are worked out
abbrev pub with_reference : ℕ → ℕ → ℕ → Drafted → Drafted
with_reference w from to d =
    record d {
      cells = d.cells ++ replicate w (Left from);
      marks = d.marks ++ Reference (length d.cells) w from to ∷ [];
    }

abbrev pub with_value_of : Source → ℕ → ℕ → Option Entry → Drafted → Result Drafted Fault
with_value_of s from to None d = wants_in from to wants.Field d
with_value_of s from to (Some one) d =
    if one.width == 0 then wants_in from to wants.Field d
    else (if is_reference (part_at from to s.text) then Ok (with_reference one.width from to d)
    else with_number from to one.width (wanted_for (part_at from to s.text)) (value_of one.look (part_at from to s.text)) d)

-- ---- the parts of a text

abbrev pub taken : Source → Item → Drafted → Result Drafted Fault
taken s (items.Cell cell) d = Ok (with_cells (cell ∷ []) d)
taken s (items.Heading from to) d = Ok (with_heading from to d)
taken s (items.Name from to) d = Ok (with_line s from to d)
taken s (items.Value from to) d = with_value_of s from to d.field d

abbrev pub all_taken : Source → List Item → Drafted → Result Drafted Fault
all_taken s [] d = Ok d
all_taken s (item ∷ parts) d = and_then (taken s item d) (λ next. all_taken s parts next)

-- ---- what a call does

abbrev pub field_in : Option Field → Option Entry
field_in (Some field) = Some (entry_of field)
field_in None = None

abbrev pub fault_in : Option declared.Fault → Option Fault
fault_in (Some wrong) = Some (fault_of wrong)
fault_in None = None

abbrev pub drafted : Draft → Drafted
drafted d = record {
  cells = d.cells.items;
  marks = d.marks.items;
  inside = d.inside;
  start = d.start;
  from = d.from;
  to = d.to;
  number = d.number;
  loose = d.loose;
  field = field_in d.field;
  line_at = d.line_at;
  line_from = d.line_from;
  line_to = d.line_to;
  doubt = fault_in d.doubt;
  early = fault_in d.early;
}
