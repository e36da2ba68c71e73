-- What structures consist of, as data, and the slots of their bytes.
use Rattle.std.specs.Prelude.{ℕ, zero, suc, ◌+◌, ◌-◌, ◌==◌, nat_lt, nat_le, if◌then◌else◌, List, [], ◌∷◌, ◌++◌, length}
use Rattle.std.specs.List.{flat_map, slice_range}
use Rattle.acpi_base.specs.Look as looks
use Rattle.std.specs.Prelude.{Option, Some, None}
use Rattle.acpi_base.specs.Walk.{end_of, number_in}
use Rattle.acpi_base.specs.declared.walk.Place.{Place}
use Rattle.acpi_base.specs.declared.row.Row.{Row}
use Rattle.acpi_text.specs.Slot.{Slot, heading, field, upto, unknown, row_slots}
use Rattle.acpi_text.specs.declared.form.Choice.{Choice}
use Rattle.acpi_text.specs.declared.form.Count.{Count}
use Rattle.acpi_text.specs.declared.form.Count.TheVariants.{Field, Rest, Once}
use Rattle.acpi_text.specs.declared.form.Part.{Part}
use Rattle.acpi_text.specs.declared.form.Part.TheVariants.{Fields, Between, Group, Entries, Numbers, Matrix, Bytes, Until, Chosen}
use Rattle.acpi_text.specs.declared.form.Part.TheVariants.{BySize}

-- the number in a field of a structure, or 0 where the structure ends before it does
abbrev pub number_at : Place → List ℕ → ℕ
number_at place whole = if nat_le (end_of place) (length whole) then number_in place whole else 0

-- how many entries a list has at most
abbrev pub count_of : Count → List ℕ → ℕ
count_of (Field place) whole = number_at place whole
count_of Rest whole = length whole
count_of Once whole = 1

-- How many bytes there are from the offset in one field up to that in another, or up to the end of the structure if the other
-- isn't past the first.
abbrev pub size_between : Place → Place → List ℕ → ℕ
size_between from to whole =
    (if nat_lt (number_at from whole) (number_at to whole) then number_at to whole else length whole) - number_at from whole

abbrev pub repeated : ℕ → List Slot → List Slot
repeated zero slots = []
repeated (suc n) slots = slots ++ repeated n slots

-- a name over fields
abbrev pub group_slots : ℕ → List ℕ → List Row → List Slot
group_slots depth name rows = heading depth name ∷ flat_map (row_slots (depth + 1)) rows

-- the choice with a number
abbrev pub find_choice : ℕ → List Choice → Option Choice
find_choice number [] = None
find_choice number (choice ∷ choices) = if number == choice.number then Some choice else find_choice number choices

-- its fields; nothing is known without one
abbrev pub choice_slots : ℕ → Option Choice → List Slot
choice_slots depth (Some choice) = group_slots depth choice.name.now choice.rows.now
choice_slots depth None = unknown ∷ []

-- the fields of a choice; there are none without one
abbrev pub optional_slots : ℕ → Option Choice → List Slot
optional_slots depth (Some choice) = group_slots depth choice.name.now choice.rows.now
optional_slots depth None = []

-- the slots at a level of a part of a structure that begins at an offset
abbrev pub part_slots : ℕ → ℕ → List ℕ → Part → List Slot
part_slots depth start whole (Fields rows) = flat_map (row_slots depth) rows.now
part_slots depth start whole (Between rows from to) = flat_map (row_slots depth) (slice_range rows.now from to)
part_slots depth start whole (Group name rows) = group_slots depth name.now rows.now
part_slots depth start whole (Entries name count rows) = repeated (count_of count whole) (group_slots depth name.now rows.now)
part_slots depth start whole (Numbers name w count) = repeated (count_of count whole) (field depth name.now looks.number w 1 ∷ [])
part_slots depth start whole (Matrix name w rows columns) =
    if number_at columns whole == 0 then []
    else repeated (number_at rows whole) (field depth name.now looks.number w (number_at columns whole) ∷ [])
part_slots depth start whole (Bytes name count) = field depth name.now looks.text 1 (number_at count whole) ∷ []
part_slots depth start whole (Until name end) = upto depth name.now (start + number_at end whole) ∷ []
part_slots depth start whole (Chosen by choices) = choice_slots depth (find_choice (number_at by whole) choices.now)
part_slots depth start whole (BySize from to choices) =
    optional_slots depth (find_choice (size_between from to whole) choices.now)

abbrev pub parts_slots : ℕ → ℕ → List ℕ → List Part → List Slot
parts_slots depth start whole parts = flat_map (part_slots depth start whole) parts
