-- Tables of structures (ACPI 6.5, 5.2.6 and the sections of their signatures).
use Rattle.std.specs.Prelude.{◌≡◌, ℕ, ◌+◌, ◌*◌, ◌^◌, ◌<◌, ◌≤◌, ◌⊎◌, List, [], ◌∷◌, ◌++◌, length}
use Rattle.std.specs.List.{concat}
use Rattle.acpi_base.specs.Bytes.{le}
use Rattle.acpi_base.specs.Table.{table_of}
use Rattle.acpi_base.specs.declared.oem.Oem.{Oem}

-- A table: the values of its header, the fields before and after the number of structures, the width of that number (0, 2 or 4
-- bytes), the limit of its length, and its structures in order.
pub record Listing : Type 0 where
  pub signature : List ℕ
  pub revision : ℕ
  pub oem : Oem
  pub before : List ℕ
  pub count_width : ℕ
  pub after : List ℕ
  pub limit : ℕ
  pub structures : List (List ℕ)

-- a number in a field of this many bytes is below this
abbrev pub field_limit : ℕ → ℕ
field_limit width = 2 ^ (8 * width)

-- a table's length is below this: its field at offset 4 has four bytes
abbrev pub length_limit : ℕ
length_limit = field_limit 4

-- the fixed fields after the header, with the number of structures in its place
abbrev pub fixed_fields : Listing → List ℕ
fixed_fields t = t.before ++ (le t.count_width (length t.structures) ++ t.after)

-- the bytes after the header
abbrev pub body_of : Listing → List ℕ
body_of t = fixed_fields t ++ concat t.structures

-- The table's bytes: their number is at offset 4, and the checksum at offset 9 makes their sum zero.
abbrev pub bytes_of : Listing → List ℕ
bytes_of t = table_of t.signature t.revision t.oem (body_of t)

-- the offset of the first structure
abbrev pub start_of : Listing → ℕ
start_of t = 36 + length t.before + t.count_width + length t.after

-- the number of bytes of the table
abbrev pub size_of : Listing → ℕ
size_of t = start_of t + length (concat t.structures)

-- the table with one more structure at its end
abbrev pub with_structure : Listing → List ℕ → Listing
with_structure t structure = record {
  signature = t.signature;
  revision = t.revision;
  oem = t.oem;
  before = t.before;
  count_width = t.count_width;
  after = t.after;
  limit = t.limit;
  structures = t.structures ++ structure ∷ [];
}

-- The header's values have the widths of their fields. The number of structures has a field of two or four bytes, or none. It and
-- the length fit their fields.
pub record IsListing (t : Listing) : Type 0 where
  pub signature : length t.signature ≡ 4
  pub id : length t.oem.id ≡ 6
  pub table_id : length t.oem.table_id ≡ 8
  pub width : (t.count_width ≡ 0) ⊎ ((t.count_width ≡ 2) ⊎ (t.count_width ≡ 4))
  pub limit : t.limit ≤ length_limit
  pub counted : (t.count_width ≡ 0) ⊎ (length t.structures < field_limit t.count_width)
  pub fits : size_of t < t.limit
