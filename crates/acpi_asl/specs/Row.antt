-- The rows in braces: the entries of a field, and the bytes of a buffer.
use Rattle.std.specs.Prelude.{ℕ, suc, ◌+◌, ◌/◌, ◌%◌, ◌==◌, ◌&&◌, not, Bool, true, false, if◌then◌else◌, List, [], ◌∷◌}
use Rattle.std.specs.Prelude.{◌++◌, codes}
use Rattle.std.specs.Fmt.{decimal}
use Rattle.acpi_term.specs.Tree.{Entry, named, reserved, access_as, extended_access_as, connection, connection_buffer}
use Rattle.acpi_term.specs.Tree.{Head, def_field, def_index_field, def_bank_field, def_buffer}
use Rattle.acpi_asl.specs.Number.{hex, short_hex}
use Rattle.acpi_asl.specs.declared.place.Body.TheVariants.{Rows}
use Rattle.acpi_asl.specs.Connection.{access_text, extended_access_text, buffer_text, connection_text}
use Rattle.acpi_asl.specs.Name.{segments_text, asl_name}
use Rattle.acpi_asl.specs.Note.{entry_note}
use Rattle.acpi_asl.specs.Opening.{field_rules}
use Rattle.acpi_asl.specs.Place.{new_line, opened, closed}

-- the bit after an entry, which begins at a bit
abbrev pub bit_after : ℕ → Entry → ℕ
bit_after at (named name bits w) = at + bits
bit_after at (reserved bits w) = at + bits
bit_after at _ = at

-- The entry of a field that begins at a bit (ACPI 6.5, 19.2.5, FieldUnitEntry). Bits without a name up to the end of a byte are
-- written as the offset of the next byte.
abbrev pub entry_text : ℕ → Entry → List ℕ
entry_text at (named name bits w) = segments_text false name ++ (codes ", " ++ decimal bits)
entry_text at (reserved bits w) =
    if (at + bits) % 8 == 0 && not (bits == 0) then codes "Offset (" ++ short_hex ((at + bits) / 8) ++ codes ")"
    else codes ", " ++ decimal bits
entry_text at (access_as access attribute) = access_text access attribute
entry_text at (extended_access_as access attribute size) = extended_access_text access attribute size
entry_text at (connection name) = connection_text (asl_name name)
entry_text at (connection_buffer w size v bytes) = connection_text (buffer_text size v bytes)

-- the comma after the row before
abbrev pub row_comma : Bool → List ℕ
row_comma first = if first then [] else codes ","

-- the rows of entries of which the first begins at a bit, each on a line
abbrev pub entries_text : ℕ → Bool → ℕ → List Entry → List ℕ
entries_text d first at [] = []
entries_text d first at (e ∷ entries) =
    row_comma first ++ new_line d ++ entry_note e ++ entry_text at e ++ entries_text d false (bit_after at e) entries

-- what stands before byte i: eight bytes are on a line
abbrev pub byte_lead : ℕ → ℕ → List ℕ
byte_lead d i = row_comma (i == 0) ++ (if i % 8 == 0 then new_line d else codes " ")

-- bytes from byte i on
abbrev pub bytes_text : ℕ → ℕ → List ℕ → List ℕ
bytes_text d i [] = []
bytes_text d i (b ∷ bytes) = (byte_lead d i ++ hex 1 b) ++ bytes_text d (i + 1) bytes

-- the arguments of a BankField after its value, and its rows
abbrev pub bank_rows : ℕ → ℕ → ℕ → List Entry → ℕ → List ℕ
bank_rows access lock update entries d =
    (field_rules access lock update ++ codes ")")
    ++ opened Rows d ++ entries_text (suc d) true 0 entries ++ closed Rows d

-- the rows of a head at a depth
abbrev pub rows : Head → ℕ → List ℕ
rows (def_field name access lock update entries) d = entries_text (suc d) true 0 entries
rows (def_index_field index name access lock update entries) d = entries_text (suc d) true 0 entries
rows (def_bank_field name bank access lock update entries) d = bank_rows access lock update entries d
rows (def_buffer bytes) d = bytes_text (suc d) 0 bytes
rows _ d = []
