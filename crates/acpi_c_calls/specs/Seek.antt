-- Fields that are sought by name: those that a structure has before its first list.
use Rattle.std.specs.Prelude.{ℕ, ◌+◌, ◌≤◌, ◌==◌, nat_lt, not, ◌&&◌, Bool, if◌then◌else◌, List, [], ◌∷◌, length, Option, Some}
use Rattle.std.specs.Prelude.{None}
use Rattle.std.specs.List.{slice_range}
use Rattle.std.specs.Str.{bytes_eq}
use Rattle.acpi_base.specs.Fields.{row_name, row_width}
use Rattle.acpi_base.specs.declared.row.Row.{Row}
use Rattle.acpi_text.specs.Form.{number_at, size_between, find_choice}
use Rattle.acpi_text.specs.declared.form.Choice.{Choice}
use Rattle.acpi_text.specs.declared.form.Part.{Part}
use Rattle.acpi_text.specs.declared.form.Part.TheVariants.{Fields, Between, Group, Entries, Numbers, Matrix, Bytes, Until, Chosen}
use Rattle.acpi_text.specs.declared.form.Part.TheVariants.{BySize}
use Rattle.acpi_c_calls.specs.declared.seek.Sought.{Sought}
use Rattle.acpi_c_calls.specs.declared.seek.Sought.TheVariants.{Found, After, Open, Outside}

-- whether a row has this name; an empty name is that of no field
abbrev pub is_wanted : List ℕ → Row → Bool
is_wanted name row = not (length name == 0) && bytes_eq name (row_name row)

-- a field at an offset of a structure, which ends before a limit
abbrev pub seek_row : List ℕ → ℕ → ℕ → Row → Sought
seek_row name limit at row =
    if nat_lt limit (at + row_width row) then Outside
    else (if is_wanted name row then Found at (row_width row) else After (at + row_width row))

-- what follows a field that isn't the one that is sought
abbrev pub and_then : Sought → (ℕ → Sought) → Sought
and_then (After at) next = next at
and_then (Found at w) next = Found at w
and_then (Open at) next = Open at
and_then Outside next = Outside

abbrev pub seek_rows : List ℕ → ℕ → ℕ → List Row → Sought
seek_rows name limit at [] = After at
seek_rows name limit at (row ∷ rows) = and_then (seek_row name limit at row) (λ next. seek_rows name limit next rows)

-- the fields of a choice; without one, the bytes have no names
abbrev pub seek_choice : List ℕ → ℕ → ℕ → Option Choice → Sought
seek_choice name limit at (Some choice) = seek_rows name limit at choice.rows.now
seek_choice name limit at None = Open at

-- the fields of a choice; without one, there are none
abbrev pub seek_optional : List ℕ → ℕ → ℕ → Option Choice → Sought
seek_optional name limit at (Some choice) = seek_rows name limit at choice.rows.now
seek_optional name limit at None = After at

-- the fields of a part of a structure; those of a list, or of any number of bytes, aren't sought
abbrev pub seek_part : List ℕ → ℕ → List ℕ → ℕ → Part → Sought
seek_part name limit whole at (Fields rows) = seek_rows name limit at rows.now
seek_part name limit whole at (Between rows from to) = seek_rows name limit at (slice_range rows.now from to)
seek_part name limit whole at (Group title rows) = seek_rows name limit at rows.now
seek_part name limit whole at (Chosen by choices) = seek_choice name limit at (find_choice (number_at by whole) choices.now)
seek_part name limit whole at (BySize from to choices) =
    seek_optional name limit at (find_choice (size_between from to whole) choices.now)
seek_part name limit whole at (Entries title count rows) = Open at
seek_part name limit whole at (Numbers title w count) = Open at
seek_part name limit whole at (Matrix title w rows columns) = Open at
seek_part name limit whole at (Bytes title count) = Open at
seek_part name limit whole at (Until title end) = Open at

-- The first field with a name of a structure that has these parts and these bytes, and whose fields end before a limit.
abbrev pub seek_parts : List ℕ → ℕ → List ℕ → ℕ → List Part → Sought
seek_parts name limit whole at [] = After at
seek_parts name limit whole at (part ∷ parts) =
    and_then (seek_part name limit whole at part) (λ next. seek_parts name limit whole next parts)

-- what is found ends before the limit
abbrev pub IsWithin : ℕ → Sought → Type 0
IsWithin limit (Found at w) = at + w ≤ limit
IsWithin limit (After at) = at ≤ limit
IsWithin limit (Open at) = at ≤ limit
IsWithin limit Outside = Unit {0}

-- where the fields end that have a fixed width, if they are within the limit
abbrev pub fixed_end : Sought → Option ℕ
fixed_end (After at) = Some at
fixed_end (Open at) = Some at
fixed_end (Found at w) = Some at
fixed_end Outside = None
