-- Records as lists of fields. A field has its name in the standard, its width in bytes, what its value is, and its bytes.
use Rattle.std.specs.Prelude.{◌≡◌, ℕ, ◌≤◌, List, [], ◌∷◌, ◌++◌, Bool, true, nat_le, ◌&&◌, map, length, codes}
use Prim.Native.String.{String}
use Rattle.acpi_base.specs.Bytes.{le, zeros}
use Rattle.acpi_base.specs.Look.{Look, Part, row_look}
use Rattle.acpi_base.specs.Look as looks
use Rattle.acpi_base.specs.declared.row.Row.{Row}
use Rattle.acpi_base.specs.declared.row.Row.TheVariants as rows
use Rattle.acpi_base.specs.declared.row.Value.{Value}
use Rattle.acpi_base.specs.declared.row.Value.TheVariants as values

pub record NamedField : Type 0 where
  pub name : List ℕ
  pub width : ℕ
  pub look : Look
  pub bytes : List ℕ

-- ---- numbers of one byte, two, four and eight, lowest byte first (ACPI 6.5, 5.2)

abbrev pub number_field : ℕ → String → ℕ → NamedField
number_field width name value = record { name = codes name; width = width; look = looks.number; bytes = le width value }

abbrev pub byte : String → ℕ → NamedField
byte = number_field 1

abbrev pub word : String → ℕ → NamedField
word = number_field 2

abbrev pub dword : String → ℕ → NamedField
dword = number_field 4

abbrev pub qword : String → ℕ → NamedField
qword = number_field 8

-- ---- what a number is; each takes one of the four widths, a name and a number

abbrev pub as_look : Look → (String → ℕ → NamedField) → String → ℕ → NamedField
as_look look width name value = record (width name value) { look = look }

-- an address, an id or a mask
abbrev pub hex : (String → ℕ → NamedField) → String → ℕ → NamedField
hex = as_look looks.hex

-- the one right value
abbrev pub preset : (String → ℕ → NamedField) → String → ℕ → NamedField
preset width name value = as_look (looks.preset value) width name value

-- the offset of another structure
abbrev pub reference : (String → ℕ → NamedField) → String → ℕ → NamedField
reference = as_look looks.reference

-- bits that have meanings of their own
abbrev pub flags : List Part → (String → ℕ → NamedField) → String → ℕ → NamedField
flags parts = as_look (looks.flags parts)

-- one of several things
abbrev pub one_of : List (ℕ × List ℕ) → (String → ℕ → NamedField) → String → ℕ → NamedField
one_of words = as_look (looks.one_of words)

-- ---- bytes

-- this many bytes in their order
abbrev pub bytes : String → ℕ → List ℕ → NamedField
bytes name width value = record { name = codes name; width = width; look = looks.bytes; bytes = value }

-- characters of ASCII, with zeros after them up to this many bytes
abbrev pub text : String → ℕ → List ℕ → NamedField
text name width value = record { name = codes name; width = width; look = looks.text; bytes = value }

-- an id of this many bytes, which are given lowest first
abbrev pub hex_of : String → ℕ → List ℕ → NamedField
hex_of name width value = record { name = codes name; width = width; look = looks.hex; bytes = value }

-- a universally unique id
abbrev pub uuid : String → List ℕ → NamedField
uuid name value = record { name = codes name; width = 16; look = looks.uuid; bytes = value }

-- this many bytes that are zero
abbrev pub reserved : ℕ → NamedField
reserved width = record { name = codes "Reserved"; width = width; look = looks.reserved; bytes = zeros width }

-- the bytes of a record
abbrev pub fields_joined : List NamedField → List ℕ
fields_joined [] = []
fields_joined (field ∷ fields) = field.bytes ++ fields_joined fields

-- ---- rows

abbrev pub row_name : Row → List ℕ
row_name (rows.Number name width) = name.now
row_name (rows.Hex name width) = name.now
row_name (rows.Preset name width value) = name.now
row_name (rows.Reference name width) = name.now
row_name (rows.Flags name width bits) = name.now
row_name (rows.OneOf name width words) = name.now
row_name (rows.Bytes name width) = name.now
row_name (rows.Text name width) = name.now
row_name (rows.Uuid name) = name.now
row_name (rows.Register name) = name.now
row_name (rows.Reserved width) = codes "Reserved"

abbrev pub row_width : Row → ℕ
row_width (rows.Number name width) = width
row_width (rows.Hex name width) = width
row_width (rows.Preset name width value) = width
row_width (rows.Reference name width) = width
row_width (rows.Flags name width bits) = width
row_width (rows.OneOf name width words) = width
row_width (rows.Bytes name width) = width
row_width (rows.Text name width) = width
row_width (rows.Uuid name) = 16
row_width (rows.Register name) = 12
row_width (rows.Reserved width) = width

-- the rows have the names and the widths of the fields, and say the same of their values
pub record AreRowsOf (rows : List Row) (fields : List NamedField) : Type 0 where
  pub names : map row_name rows ≡ map (λ f. f.name) fields
  pub widths : map row_width rows ≡ map (λ f. f.width) fields
  pub looks : map row_look rows ≡ map (λ f. f.look) fields

-- values in order, each written by the row at its place
abbrev pub rows_joined : {V : Type 0} → (Row → V → List ℕ) → List Row → List V → List ℕ
rows_joined f (row ∷ rows) (value ∷ values) = f row value ++ rows_joined f rows values
rows_joined f _ _ = []

-- a number as wide as its row, lowest byte first
abbrev pub number_bytes : Row → ℕ → List ℕ
number_bytes row value = le (row_width row) value

abbrev pub numbers_joined : List Row → List ℕ → List ℕ
numbers_joined rows numbers = rows_joined number_bytes rows numbers

-- no number is wider than eight bytes
abbrev pub are_numbers : List Row → Bool
are_numbers [] = true
are_numbers (row ∷ rows) = nat_le (row_width row) 8 && are_numbers rows

-- a number of this many bytes, or bytes in their order
abbrev pub value_in : ℕ → Value → List ℕ
value_in width (values.Number value) = le width value
value_in width (values.Bytes value) = value.now

abbrev pub value_bytes : Row → Value → List ℕ
value_bytes row value = value_in (row_width row) value

abbrev pub values_joined : List Row → List Value → List ℕ
values_joined rows values = rows_joined value_bytes rows values

-- a number is at most eight bytes wide, and the number of bytes is that of the row
abbrev pub Fits : ℕ → Value → Type 0
Fits width (values.Number value) = width ≤ 8
Fits width (values.Bytes value) = length value.now ≡ width

abbrev pub AllFit : List Row → List Value → Type 0
AllFit (row ∷ rows) (value ∷ values) = Fits (row_width row) value × AllFit rows values
AllFit _ _ = Unit {0}
