-- The fields that a form names.
use Rattle.std.specs.Prelude.{◌≡◌, ℕ, ◌+◌, ◌-◌, ◌^◌, ◌==◌, nat_le, nat_lt, ◌&&◌, ◌||◌, Bool, true, false, if◌then◌else◌}
use Rattle.std.specs.Prelude.{List, [], ◌∷◌, ◌++◌, length, codes, Option, Some, None}
use Rattle.std.specs.List.{flat_map, slice_range}
use Rattle.acpi_base.specs.Fields.{row_name, row_width}
use Rattle.acpi_base.specs.Gas.{address_spaces, access_sizes}
use Rattle.acpi_base.specs.Look.{Look, look_of, row_look}
use Rattle.acpi_base.specs.Look as looks
use Rattle.acpi_base.specs.declared.row.Row.{Row}
use Rattle.acpi_base.specs.declared.row.Row.TheVariants.{Register}
use Rattle.acpi_text.specs.declared.form.Choice.{Choice}
use Rattle.acpi_text.specs.declared.form.Inner.{Inner}
use Rattle.acpi_text.specs.declared.form.Inner.TheVariants.{Nothing, Lists}
use Rattle.acpi_text.specs.declared.form.InnerForm.{InnerForm}
use Rattle.acpi_text.specs.declared.form.InnerList.{InnerList}
use Rattle.acpi_text.specs.declared.form.Part.{Part}
use Rattle.acpi_text.specs.declared.form.Part.TheVariants as parts
use Rattle.acpi_text.specs.declared.form.StructureForm.{StructureForm}
use Rattle.acpi_text.specs.declared.form.TableForm.{TableForm}
use Rattle.acpi_make.specs.Text.{after, are_white}
use Rattle.acpi_make.specs.declared.entry.Field.{Field}
use Rattle.acpi_make.specs.declared.entry.Search.{Search}
use Rattle.acpi_make.specs.declared.entry.Search.TheVariants.{Found, Missing}
use Rattle.acpi_text.specs.Structure.{all_forms}

-- A field that a form names: its name, the width of a number in it, how many bytes a line of it has, and what its value is. A
-- name over fields has no number, and the width 0. A line whose number of bytes depends on other fields has the size 0 here.
pub record Entry : Type 0 where
  pub name : List ℕ
  pub width : ℕ
  pub size : ℕ
  pub look : Look

abbrev pub entry_of : Field → Entry
entry_of field = record { name = field.name.now; width = field.width; size = field.size; look = look_of field.look }

-- a field of one number
abbrev pub entry : List ℕ → ℕ → Look → Entry
entry name width look = record { name = name; width = width; size = width; look = look }

-- a field of any number of these
abbrev pub open_entry : List ℕ → ℕ → Look → Entry
open_entry name width look = record { name = name; width = width; size = 0; look = look }

-- ---- the fields of rows

-- the fields of a register's address (ACPI 6.5, 5.2.3.2)
abbrev pub register_entries : List Entry
register_entries =
    entry (codes "Address Space ID") 1 (looks.one_of address_spaces)
    ∷ entry (codes "Register Bit Width") 1 looks.number
    ∷ entry (codes "Register Bit Offset") 1 looks.number
    ∷ entry (codes "Access Size") 1 (looks.one_of access_sizes)
    ∷ entry (codes "Address") 8 looks.hex
    ∷ []

-- the field of a row
abbrev pub row_entry : Row → Entry
row_entry row = entry (row_name row) (row_width row) (row_look row)

-- a name over fields, which has no bytes
abbrev pub title_entry : List ℕ → Entry
title_entry name = entry name 0 looks.bytes

-- that of a register, which can't be left out
abbrev pub register_entry : List ℕ → Entry
register_entry name = entry name 0 looks.register

-- the fields of a row: a register is a name over those of its address
abbrev pub row_entries : Row → List Entry
row_entries (Register name) = register_entry name.now ∷ register_entries
row_entries row = row_entry row ∷ []

abbrev pub rows_entries : List Row → List Entry
rows_entries rows = flat_map row_entries rows

-- ---- the fields of parts

abbrev pub titled_entries : List ℕ → List Row → List Entry
titled_entries name rows = title_entry name ∷ rows_entries rows

abbrev pub choice_entries : Choice → List Entry
choice_entries choice = titled_entries choice.name.now choice.rows.now

-- Each field and each name over fields once, also where a structure has it several times.
abbrev pub part_entries : Part → List Entry
part_entries (parts.Fields rows) = rows_entries rows.now
part_entries (parts.Between rows from to) = rows_entries (slice_range rows.now from to)
part_entries (parts.Group name rows) = titled_entries name.now rows.now
part_entries (parts.Entries name count rows) = titled_entries name.now rows.now
part_entries (parts.Numbers name w count) = entry name.now w looks.number ∷ []
part_entries (parts.Matrix name w rows columns) = open_entry name.now w looks.number ∷ []
part_entries (parts.Bytes name count) = open_entry name.now 1 looks.text ∷ []
part_entries (parts.Until name end) = open_entry name.now 1 looks.text ∷ []
part_entries (parts.Chosen by choices) = flat_map choice_entries choices.now
part_entries (parts.BySize from to choices) = flat_map choice_entries choices.now

abbrev pub parts_entries : List Part → List Entry
parts_entries list = flat_map part_entries list

-- the fields of structures within, under the name of each
abbrev pub inner_form_entries : InnerForm → List Entry
inner_form_entries form = title_entry form.name.now ∷ parts_entries form.parts.now

abbrev pub inner_list_entries : InnerList → List Entry
inner_list_entries list = flat_map inner_form_entries list.forms.now

abbrev pub inner_entries : Inner → List Entry
inner_entries Nothing = []
inner_entries (Lists start lists) = flat_map inner_list_entries lists.now

-- ---- a field by its name

abbrev pub ends_in_white : Option (List ℕ) → Bool
ends_in_white (Some rest) = are_white rest
ends_in_white None = false

-- whether a line has a name, and white space after it
abbrev pub is_line_of : List ℕ → List ℕ → Bool
is_line_of name line = ends_in_white (after name line)

-- whether a line is that of a field; an empty one may be that of any
abbrev pub is_of : List ℕ → Entry → Bool
is_of line one = length line == 0 || is_line_of one.name line

-- The number of the field after one. No form has as many fields as the last number.
abbrev pub next_number : ℕ → ℕ
next_number k = if nat_lt k (2 ^ 32) then k + 1 else k

-- the number after those of these fields, the first of which has the number k
abbrev pub number_after : ℕ → List Entry → ℕ
number_after k [] = k
number_after k (one ∷ entries) = number_after (next_number k) entries

-- the first field of a line's name with this number or a higher one, where the first of the list has the number k
abbrev pub find_entry : ℕ → ℕ → List ℕ → List Entry → Option (ℕ × Entry)
find_entry k least line [] = None
find_entry k least line (one ∷ entries) =
    if nat_le least k && is_of line one then Some (k, one) else find_entry (next_number k) least line entries

abbrev pub or_else : {A : Type 0} → Option A → Option A → Option A
or_else (Some value) other = Some value
or_else None other = other

-- the next field of a line's name, from this one on, and then from the first on
abbrev pub next_entry : ℕ → List ℕ → List Entry → Option (ℕ × Entry)
next_entry least line entries = or_else (find_entry 0 least line entries) (find_entry 0 0 line entries)

-- ---- names over fields

-- whether a field is a name over fields
abbrev pub is_title : Entry → Bool
is_title one = one.width == 0

-- whether a field is a register's name over the fields of its address
abbrev pub is_register : Look → Bool
is_register looks.register = true
is_register look = false

-- the field that was found, if it is a name over fields
abbrev pub only_title : Option (ℕ × Entry) → Option (ℕ × Entry)
only_title (Some found) = if is_title found.1 then Some found else None
only_title None = None

-- the name over fields just before the field with this number
abbrev pub title_over : ℕ → List Entry → Option (ℕ × Entry)
title_over k entries = if k == 0 then None else only_title (find_entry 0 (k - 1) [] entries)

abbrev pub is_found : Option (ℕ × Entry) → Bool
is_found (Some found) = true
is_found None = false

-- the number of the field that was found, or another
abbrev pub number_or : Option (ℕ × Entry) → ℕ → ℕ
number_or (Some found) other = found.0
number_or None other = other

-- ---- fields that come once

-- whether the lines of a part can come again
abbrev pub repeats : Part → Bool
repeats (parts.Entries name count rows) = true
repeats (parts.Numbers name width count) = true
repeats (parts.Matrix name width rows columns) = true
repeats part = false

-- whether the field that was found has this number
abbrev pub has_number : Option (ℕ × Entry) → ℕ → Bool → Bool
has_number (Some found) number other = found.0 == number
has_number None number other = other

-- Whether a line is that of the field with this number, and the field is before the first list of these parts. The first field of
-- the parts has the number k.
abbrev pub is_once : ℕ → ℕ → List ℕ → List Part → Bool
is_once k number line [] = false
is_once k number line (part ∷ others) =
    if repeats part then false
    else has_number (find_entry k number line (part_entries part)) number
    (is_once (number_after k (part_entries part)) number line others)

-- ---- a field anywhere in a form

-- the fields of a structure, and of those within it
abbrev pub structure_entries : StructureForm → List Entry
structure_entries form = parts_entries form.parts.now ++ inner_entries form.inner.now

-- the first field of a line's name in structures
abbrev pub find_inside : List ℕ → List StructureForm → Option (ℕ × Entry)
find_inside line [] = None
find_inside line (form ∷ forms) = or_else (next_entry 0 line (structure_entries form)) (find_inside line forms)

-- the first field of a line's name in a table and its structures
abbrev pub find_anywhere : List ℕ → TableForm → Option (ℕ × Entry)
find_anywhere line form =
    or_else (next_entry 0 line (parts_entries form.parts.now ++ inner_entries form.inner.now)) (find_inside line (all_forms form))

-- the name of the field that was found
abbrev pub name_found : Option (ℕ × Entry) → List ℕ
name_found (Some found) = found.1.name
name_found None = []

-- whether the field that was found is one of any number of bytes
abbrev pub is_open : Option (ℕ × Entry) → Bool
is_open (Some found) = found.1.size == 0 && found.1.width == 1
is_open None = false

-- ---- what a call finds

-- the field that was found, or that there is none, and the number after the last
abbrev pub IsSearch : Search → ℕ → ℕ → List ℕ → List Entry → Type 0
IsSearch (Found number field) k least line entries = find_entry k least line entries ≡ Some (number, entry_of field)
IsSearch (Missing next) k least line entries =
    (next ≡ number_after k entries) × (find_entry k least line entries ≡ None)

abbrev pub found_of : Option (ℕ × Field) → Option (ℕ × Entry)
found_of (Some found) = Some (found.0, entry_of found.1)
found_of None = None
