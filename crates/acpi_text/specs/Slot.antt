-- The lines of bytes that have names, and of those that have none.
use Rattle.std.specs.Prelude.{◌≡◌, ℕ, zero, suc, ◌+◌, ◌*◌, ◌/◌, ◌-◌, ◌≤◌, nat_lt, nat_le, ◌==◌, if◌then◌else◌}
use Rattle.std.specs.Prelude.{List, [], ◌∷◌, ◌++◌, length, take, drop, codes}
use Rattle.acpi_base.specs.Fields.{row_name}
use Rattle.acpi_base.specs.Gas.{address_spaces, access_sizes}
use Rattle.acpi_base.specs.declared.row.Row.{Row}
use Rattle.acpi_base.specs.declared.row.Row.TheVariants as rows
use Rattle.acpi_text.specs.Line.{line, title}
use Rattle.acpi_text.specs.declared.line.LineForm.{LineForm}
use Rattle.acpi_base.specs.Look.{Look, row_look, look_of}
use Rattle.acpi_base.specs.Look as looks

-- What a line shows:
-- - heading: a name over other lines, at a level;
-- - field: a field at a level, by its name, with what its value means, of n numbers of w bytes;
-- - upto: a field of bytes, at a level, that end at an offset, if any stand before it;
-- - unknown: nothing is known of what follows.
pub data Slot : Type 0 where
  heading : ℕ → List ℕ → Slot
  field : ℕ → List ℕ → Look → ℕ → ℕ → Slot
  upto : ℕ → List ℕ → ℕ → Slot
  unknown : Slot

-- the field of a line
abbrev pub field_of : LineForm → Slot
field_of form = field form.depth form.name.now (look_of form.look) form.width form.count

-- ---- bytes without names

-- k lines of sixteen bytes, the last of what is left
abbrev pub nameless_lines : ℕ → ℕ → List ℕ → List ℕ
nameless_lines zero at bytes = []
nameless_lines (suc k) at bytes =
    line 0 at (codes "Bytes") looks.bytes 1 (length (take 16 bytes)) (take 16 bytes) ++ nameless_lines k (at + 16) (drop 16 bytes)

abbrev pub nameless : ℕ → List ℕ → List ℕ
nameless at bytes = nameless_lines ((length bytes + 15) / 16) at bytes

-- ---- bytes with names

-- A field's line, and the lines of what stands after it. Where there are fewer bytes than the field has, they have no name.
abbrev pub field_text : (ℕ → List ℕ → List ℕ) → ℕ → ℕ → List ℕ → Look → ℕ → ℕ → List ℕ → List ℕ
field_text after at depth name look w n bytes =
    if length bytes == 0 then []
    else (if nat_lt (length bytes) (w * n) then nameless at bytes
    else line depth at name look w n (take (w * n) bytes) ++ after (at + w * n) (drop (w * n) bytes))

-- The lines of bytes from an offset on, as far as there are bytes. What is left after all slots has no name.
abbrev pub slots_text : ℕ → List Slot → List ℕ → List ℕ
slots_text at [] bytes = nameless at bytes
slots_text at (unknown ∷ slots) bytes = nameless at bytes
slots_text at (heading depth name ∷ slots) bytes =
    if length bytes == 0 then [] else title depth at name ++ slots_text at slots bytes
slots_text at (field depth name look w n ∷ slots) bytes =
    field_text (λ k rest. slots_text k slots rest) at depth name look w n bytes
slots_text at (upto depth name end ∷ slots) bytes =
    if nat_le end at then slots_text at slots bytes
    else field_text (λ k rest. slots_text k slots rest) at depth name looks.text 1 (end - at) bytes

-- the width of the numbers of a row: one number is as wide as the row, and bytes are one wide each
abbrev pub unit_width : Row → ℕ
unit_width (rows.Number name w) = w
unit_width (rows.Hex name w) = w
unit_width (rows.Preset name w value) = w
unit_width (rows.Reference name w) = w
unit_width (rows.Flags name w bits) = w
unit_width (rows.OneOf name w words) = w
unit_width (rows.Bytes name n) = 1
unit_width (rows.Text name n) = 1
unit_width (rows.Uuid name) = 1
unit_width (rows.Register name) = 1
unit_width (rows.Reserved n) = 1

-- their number
abbrev pub unit_count : Row → ℕ
unit_count (rows.Number name w) = 1
unit_count (rows.Hex name w) = 1
unit_count (rows.Preset name w value) = 1
unit_count (rows.Reference name w) = 1
unit_count (rows.Flags name w bits) = 1
unit_count (rows.OneOf name w words) = 1
unit_count (rows.Bytes name n) = n
unit_count (rows.Text name n) = n
unit_count (rows.Uuid name) = 16
unit_count (rows.Register name) = 12
unit_count (rows.Reserved n) = n

-- the field of a row: one number, or bytes
abbrev pub row_slot : ℕ → Row → Slot
row_slot depth row = field depth (row_name row) (row_look row) (unit_width row) (unit_count row)

-- the fields of a register's address (ACPI 6.5, 5.2.3.2)
abbrev pub register_slots : ℕ → List Slot
register_slots depth =
    field depth (codes "Address Space ID") (looks.one_of address_spaces) 1 1
    ∷ field depth (codes "Register Bit Width") looks.number 1 1
    ∷ field depth (codes "Register Bit Offset") looks.number 1 1
    ∷ field depth (codes "Access Size") (looks.one_of access_sizes) 1 1
    ∷ field depth (codes "Address") looks.hex 8 1
    ∷ []

-- the lines of a row: a register has its fields a level below its name
abbrev pub row_slots : ℕ → Row → List Slot
row_slots depth (rows.Register name) = heading depth name.now ∷ register_slots (depth + 1)
row_slots depth row = row_slot depth row ∷ []

-- ---- what a call shows

-- The lines of these slots were added to a text, and they show the first n of the bytes. Where the bytes end before the slots do,
-- they show all bytes.
pub record Showed (slots : List Slot) (at : ℕ) (bytes old new : List ℕ) (n : ℕ) : Type 0 where
  pub within : n ≤ length bytes
  pub lines : (more : List Slot) → old ++ slots_text at (slots ++ more) bytes ≡ new ++ slots_text (at + n) more (drop n bytes)
