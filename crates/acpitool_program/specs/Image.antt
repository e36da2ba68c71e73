-- The tables of an image, and where its pointer is.
use Rattle.std.specs.Prelude.{◌≡◌, ℕ, ◌+◌, ◌-◌, ◌%◌, ◌^◌, ◌<◌, ◌≤◌, nat_eq, IsTrue, Bool, true, false, if◌then◌else◌}
use Rattle.std.specs.Prelude.{List, [], ◌∷◌, ◌++◌}
use Rattle.std.specs.Prelude.{length, map, take, drop, codes, slice_index_or}
use Rattle.std.specs.Fmt.{decimal, digits}
use Rattle.std.specs.List.{starts_with}
use Rattle.std.specs.Str.{bytes_eq}
use Rattle.acpi_json.specs.Array.{array}
use Rattle.acpi_json.specs.Finding.{member}
use Rattle.acpi_json.specs.Text.{string}
use Rattle.acpi_base.specs.Bytes.{field_at}
use Rattle.acpi_layout.specs.Found.{IsImageOf}
use Rattle.acpi_layout.specs.declared.located.Located.{Located}
use Rattle.acpi_layout.specs.declared.root.Root.{Root}
use Rattle.acpi_layout.specs.declared.root.Root.TheVariants.{Xsdt, Rsdt}
use Rattle.acpi_read.specs.Report.{printable}
use Rattle.acpitool_program.specs.Check.{IsPointer}

-- ---- the pointer

-- A Root System Description Pointer of this size is at this offset, a multiple of 16 (ACPI 6.5, 5.2.5.1 and 5.2.5.3). With 36
-- bytes it has the address of an XSDT; with 20, which are those of revision 0, only that of an RSDT.
pub record IsPointerAt (size : ℕ) (bytes : List ℕ) (at : ℕ) : Type 0 where
  pub aligned : at % 16 ≡ 0
  pub whole : at + size ≤ length bytes
  pub signature : IsTrue (starts_with nat_eq (take size (drop at bytes)) (codes "RSD PTR "))
  pub pointer : IsPointer (take size (drop at bytes))

-- the first pointer of this size is at this offset
pub record IsFirstPointer (size : ℕ) (bytes : List ℕ) (at : ℕ) : Type 0 where
  pub is : IsPointerAt size bytes at
  pub first : (k : ℕ) → k < at → ¬ IsPointerAt size bytes k

abbrev pub HasNoPointer : ℕ → List ℕ → Type 0
HasNoPointer size bytes = (k : ℕ) → ¬ IsPointerAt size bytes k

-- ---- lines

-- the offset of a table's revision, by its signature (ACPI 6.5, 5.2.5.3, 5.2.10 and 5.2.6)
abbrev pub revision_offset : List ℕ → ℕ
revision_offset signature =
    if bytes_eq signature (codes "RSD ") then 15 else (if bytes_eq signature (codes "FACS") then 32 else 8)

abbrev pub revision_of : ℕ → List ℕ → Located → ℕ
revision_of base bytes table = slice_index_or (drop (table.address - base) bytes) (revision_offset table.signature) 0

-- a table's address, signature, length and revision
abbrev pub table_line : ℕ → List ℕ → Located → List ℕ
table_line base bytes table =
    codes "0x" ++ digits 16 false table.address ++ codes " " ++ map printable table.signature
    ++ codes " length " ++ decimal table.length ++ codes " revision " ++ decimal (revision_of base bytes table) ++ 10 ∷ []

abbrev pub table_lines : ℕ → List ℕ → List Located → List ℕ
table_lines base bytes [] = []
table_lines base bytes (table ∷ tables) = table_line base bytes table ++ table_lines base bytes tables

-- the members of its object
unfoldable pub address_member : ℕ → List ℕ
address_member address = member (codes "{\"address\":") address

unfoldable pub signature_member : List ℕ → List ℕ
signature_member signature = codes ",\"signature\":" ++ string signature

unfoldable pub length_member : ℕ → List ℕ
length_member size = codes ",\"length\":" ++ decimal size

unfoldable pub revision_member : ℕ → List ℕ
revision_member revision = codes ",\"revision\":" ++ decimal revision

-- its object, in a line
unfoldable pub table_object : ℕ → List ℕ → Located → List ℕ
table_object base bytes table =
    address_member table.address
    ++ signature_member table.signature
    ++ length_member table.length
    ++ revision_member (revision_of base bytes table)
    ++ codes "}\n"

abbrev pub table_objects : ℕ → List ℕ → List Located → List ℕ
table_objects base bytes [] = []
table_objects base bytes (table ∷ tables) = table_object base bytes table ++ table_objects base bytes tables

-- what is printed of tables: the array of their objects, or their lines
abbrev pub tables_text : Bool → ℕ → List ℕ → List Located → List ℕ
tables_text true base bytes tables = array (table_objects base bytes tables)
tables_text false base bytes tables = table_lines base bytes tables

-- ---- the image

-- The first pointer to an XSDT, which has 36 bytes, is at this offset. If there is none, it is the first pointer to an RSDT,
-- which has 20.
abbrev pub IsFirstPointerTo : Root → List ℕ → ℕ → Type 0
IsFirstPointerTo Xsdt bytes at = IsFirstPointer 36 bytes at
IsFirstPointerTo Rsdt bytes at = HasNoPointer 36 bytes × IsFirstPointer 20 bytes at

-- the address in a pointer at an offset
abbrev pub root_address : Root → ℕ → List ℕ → ℕ
root_address Xsdt at bytes = field_at (at + 24) 8 bytes
root_address Rsdt at bytes = field_at (at + 16) 4 bytes

-- The bytes are an image from this base on, whose first pointer leads to these tables.
pub record IsFoundImage (base : ℕ) (bytes : List ℕ) (tables : List Located) : Type 0 where
  pub root : Root
  pub at : ℕ
  pub first : IsFirstPointerTo root bytes at
  pub fits : base + at < 2 ^ 64
  pub image : IsImageOf root bytes base (base + at) tables
