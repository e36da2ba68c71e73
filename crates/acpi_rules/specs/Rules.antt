-- The rules that hold for every field of a form, by what its value is.
use Rattle.std.specs.Prelude.{ℕ, ◌==◌, nat_le, ◌&&◌, ◌||◌, not, Bool, true, false, if◌then◌else◌, bit_and}
use Rattle.std.specs.Prelude.{List, [], ◌∷◌, ◌++◌, length, take, Option, Some, None, codes}
use Rattle.std.specs.List.{flat_map}
use Rattle.std.specs.Str.{bytes_eq}
use Rattle.acpi_base.specs.Bytes.{carried}
use Rattle.acpi_base.specs.Look.{Look, Part, one_flag, one_choice, one_number}
use Rattle.acpi_base.specs.Look as looks
use Rattle.acpi_text.specs.Note.{find_word, without}
use Rattle.acpi_rules.specs.Field.{Field}
use Rattle.acpi_rules.specs.Finding.{Finding}
use Rattle.acpi_base.specs.declared.walk.Place.{Place}
use Rattle.acpi_text.specs.Form.{number_at}
use Rattle.acpi_rules.specs.declared.allowed.Allowed.{Allowed as AllowedData}
use Rattle.acpi_rules.specs.declared.limit.Limit.{Limit as LimitData}
use Rattle.acpi_rules.specs.declared.finding.Rule.{Rule}
use Rattle.acpi_rules.specs.declared.finding.Rule.TheVariants.{ReservedBytes, ReservedBits, ReservedValue, StructureLength, Range}

-- ---- numbers that the standard leaves to others, or to older revisions

-- Numbers from one to another are allowed in a field of this name: in tables of this signature, or in all where there is none;
-- and at this offset of the table, or at any where it is 0.
pub record Allowed : Type 0 where
  pub table : List ℕ
  pub offset : ℕ
  pub name : List ℕ
  pub from : ℕ
  pub to : ℕ

abbrev pub allowed_by : AllowedData → Allowed
allowed_by row = record { table = row.table.now; offset = row.offset; name = row.name.now; from = row.from; to = row.to }

-- whether a row speaks of a field of a table with this signature, and of this number
abbrev pub allows : List ℕ → Field → ℕ → Allowed → Bool
allows signature field n row =
    (length row.table == 0 || bytes_eq row.table signature)
    && (row.offset == 0 || row.offset == field.offset)
    && bytes_eq row.name field.name
    && nat_le row.from n
    && nat_le n row.to

abbrev pub any_allows : List Allowed → List ℕ → Field → ℕ → Bool
any_allows [] signature field n = false
any_allows (row ∷ rows) signature field n = allows signature field n row || any_allows rows signature field n

-- ---- findings

-- the number in the bytes of a field, of which it has eight at most
abbrev pub number_of : Field → ℕ
number_of field = carried (take 8 field.bytes)

-- The field breaks a rule of a section. The rule speaks of one number, or of the numbers from one to another.
abbrev pub breaks : Rule → List ℕ → ℕ → ℕ → Field → List Finding
breaks rule section number most field = record {
  rule = rule;
  section = section;
  offset = field.offset;
  name = field.name;
  bytes = field.bytes;
  number = number;
  most = most;
  other = [];
} ∷ []

-- the sections on reserved bits, on reserved values, and on tables and their structures
abbrev pub bits_section : List ℕ
bits_section = codes "ACPI 6.5, 5.2.1.1"

abbrev pub values_section : List ℕ
values_section = codes "ACPI 6.5, 5.2.1.2"

abbrev pub lengths_section : List ℕ
lengths_section = codes "ACPI 6.5, 5.2"

abbrev pub all_zero : List ℕ → Bool
all_zero [] = true
all_zero (b ∷ bytes) = (b == 0) && all_zero bytes

-- Reserved bytes are zero (ACPI 6.5, 5.2.1.1).
abbrev pub reserved_findings : (ℕ → Bool) → Field → List Finding
reserved_findings is_allowed field =
    if all_zero field.bytes || is_allowed (number_of field) then [] else breaks ReservedBytes bits_section 0 0 field

-- A number is none of the reserved ones: it is one of these (ACPI 6.5, 5.2.1.2).
abbrev pub value_findings : (ℕ → Bool) → Field → ℕ → Option (List ℕ) → List Finding
value_findings is_allowed field n (Some name) = []
value_findings is_allowed field n None = if is_allowed n then [] else breaks ReservedValue values_section n 0 field

-- whether a field is the length of a structure
abbrev pub is_length : List ℕ → Bool
is_length name = bytes_eq name (codes "Length") || bytes_eq name (codes "Record Length")

-- A structure of a type that has one length has this length.
abbrev pub preset_findings : (ℕ → Bool) → Field → ℕ → List Finding
preset_findings is_allowed field value =
    if not (is_length field.name) || (number_of field == value) || is_allowed (number_of field) then []
    else breaks StructureLength lengths_section value 0 field

-- the bits of which a part of a number consists
abbrev pub mask_of : Part → ℕ
mask_of (one_flag mask name) = mask
mask_of (one_choice mask words) = mask
mask_of (one_number mask lowest name) = mask

-- the bits of a number that belong to no part
abbrev pub other_bits : List Part → ℕ → ℕ
other_bits [] n = n
other_bits (part ∷ parts) n = other_bits parts (without (mask_of part) n)

-- Reserved bits are zero (ACPI 6.5, 5.2.1.1).
abbrev pub bit_findings : (ℕ → Bool) → Field → ℕ → List Finding
bit_findings is_allowed field bits = if (bits == 0) || is_allowed bits then [] else breaks ReservedBits bits_section bits 0 field

-- Bits that stand for one of several things are none of the reserved numbers (ACPI 6.5, 5.2.1.2). Zeros aren't reserved.
abbrev pub choice_findings : (ℕ → Bool) → Field → List (ℕ × List ℕ) → ℕ → List Finding
choice_findings is_allowed field words n = if n == 0 then [] else value_findings is_allowed field n (find_word words n)

abbrev pub part_findings : (ℕ → Bool) → Field → Part → List Finding
part_findings is_allowed field (one_choice mask words) = choice_findings is_allowed field words (bit_and (number_of field) mask)
part_findings is_allowed field part = []

abbrev pub look_findings : Look → (ℕ → Bool) → Field → List Finding
look_findings looks.reserved is_allowed field = reserved_findings is_allowed field
look_findings (looks.one_of words) is_allowed field =
    value_findings is_allowed field (number_of field) (find_word words (number_of field))
look_findings (looks.preset value) is_allowed field = preset_findings is_allowed field value
look_findings (looks.flags parts) is_allowed field =
    bit_findings is_allowed field (other_bits parts (number_of field)) ++ flat_map (part_findings is_allowed field) parts
look_findings look is_allowed field = []

-- ---- numbers in a range

-- In tables of this signature a number from one to another stands in the field of this name: at this offset of the table, or at
-- any where it is 0. The rule holds if the bits of a mask, in the number at a place of the table, are this number.
pub record Limit : Type 0 where
  pub table : List ℕ
  pub offset : ℕ
  pub name : List ℕ
  pub from : ℕ
  pub to : ℕ
  pub place : Place
  pub mask : ℕ
  pub is : ℕ
  pub section : List ℕ

abbrev pub limit_by : LimitData → Limit
limit_by row = record {
  table = row.table.now;
  offset = row.offset;
  name = row.name.now;
  from = row.from;
  to = row.to;
  place = row.place;
  mask = row.mask;
  is = row.is;
  section = row.section.now;
}

-- whether a row speaks of a field of a table
abbrev pub limits : List ℕ → Field → Limit → Bool
limits table field row =
    bytes_eq row.table (take 4 table)
    && (row.offset == 0 || row.offset == field.offset)
    && bytes_eq row.name field.name
    && (bit_and (number_at row.place table) row.mask == row.is)

-- The number of a field is in the range of a row that speaks of it.
abbrev pub limit_findings : List Allowed → List ℕ → Field → Limit → List Finding
limit_findings rows table field row =
    if not (limits table field row)
    || (nat_le row.from (number_of field) && nat_le (number_of field) row.to)
    || any_allows rows (take 4 table) field (number_of field)
    then []
    else breaks Range row.section row.from row.to field

-- ---- all rules on one field

-- the rules that a field of a table breaks, but for the numbers that rows allow
abbrev pub field_findings : List Allowed → List Limit → List ℕ → Field → List Finding
field_findings rows ranges table field =
    look_findings field.look (any_allows rows (take 4 table) field) field ++ flat_map (limit_findings rows table field) ranges

abbrev pub fields_findings : List Allowed → List Limit → List ℕ → List Field → List Finding
fields_findings rows ranges table fields = flat_map (field_findings rows ranges table) fields
