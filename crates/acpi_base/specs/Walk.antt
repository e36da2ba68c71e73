-- How the structures of a table are found in its bytes.
use Rattle.std.specs.Prelude.{◌≡◌, ℕ, ◌+◌, ◌*◌, ◌≤◌, ◌==◌, ◌&&◌, nat_le, List, [], ◌∷◌, length, drop, codes}
use Rattle.std.specs.Prelude.{if◌then◌else◌, Bool, Option, Some, None}
use Rattle.std.specs.List.{concat}
use Rattle.acpi_base.specs.Bytes.{carried, field_at}
use Rattle.acpi_base.specs.declared.walk.Place.{Place}
use Rattle.acpi_base.specs.declared.walk.Place.TheVariants.{Nowhere, Byte, Word, DWord}
use Rattle.acpi_base.specs.declared.walk.Sizes.{Sizes}
use Rattle.acpi_base.specs.declared.walk.Sizes.TheVariants.{EachOf, ToldAt, ByType}
use Rattle.acpi_base.specs.declared.walk.Types.{Types}
use Rattle.acpi_base.specs.declared.walk.Types.TheVariants.{Sources, AllSources, DeviceEntries}
use Rattle.acpi_base.specs.declared.walk.TypeSize.{TypeSize}
use Rattle.acpi_base.specs.declared.walk.TypeSize.TheVariants.{Fixed, Counted}
use Rattle.acpi_base.specs.declared.walk.Walk.{Walk}

-- the offset of a field's first byte
abbrev pub place_offset : Place → ℕ
place_offset Nowhere = 0
place_offset (Byte offset) = offset
place_offset (Word offset) = offset
place_offset (DWord offset) = offset

-- the width of a field in bytes, or 0 if there is no field
abbrev pub place_width : Place → ℕ
place_width Nowhere = 0
place_width (Byte offset) = 1
place_width (Word offset) = 2
place_width (DWord offset) = 4

-- the offset after a field
abbrev pub end_of : Place → ℕ
end_of place = place_offset place + place_width place

-- the number in the field at a place
abbrev pub number_in : Place → List ℕ → ℕ
number_in place bytes = field_at (place_offset place) (place_width place) bytes

-- the structures of a type have this length
abbrev pub has_type : ℕ → TypeSize → Bool
has_type kind (Fixed first last size) = nat_le first kind && nat_le kind last
has_type kind (Counted own size at each) = kind == own

-- what says the length of the structures of a type
abbrev pub find_size : ℕ → List TypeSize → Option TypeSize
find_size kind [] = None
find_size kind (row ∷ rows) = if has_type kind row then Some row else find_size kind rows

-- the offset after the byte that contains the number of entries, or 0 if there is none
abbrev pub told_by : TypeSize → ℕ
told_by (Fixed first last size) = 0
told_by (Counted own size at each) = at + 1

-- the length of a structure, which its entries end
abbrev pub size_of : TypeSize → List ℕ → ℕ
size_of (Fixed first last size) bytes = size
size_of (Counted own size at each) bytes = size + each * field_at at 1 bytes

-- the length of the structure with which bytes begin; they contain what says it, and so does the structure
abbrev pub size_by : ℕ → Option TypeSize → List ℕ → Option ℕ
size_by least (Some row) bytes =
    if nat_le (told_by row) (length bytes)
    then (if nat_le least (size_of row bytes) && nat_le (told_by row) (size_of row bytes) then Some (size_of row bytes) else None)
    else None
size_by least None bytes = None

-- the length of the structure with which bytes begin, by its type
abbrev pub type_size : Place → List TypeSize → List ℕ → Option ℕ
type_size kind rows bytes =
    if nat_le (end_of kind) (length bytes) then size_by (end_of kind) (find_size (number_in kind bytes) rows) bytes else None

-- The error sources that the Rust crate writes: AER root port, AER device, AER bridge, generic hardware error source, and its
-- version 2 (ACPI 6.5, 18.3.2).
abbrev pub sources : List TypeSize
sources = Fixed 6 6 48 ∷ Fixed 7 7 44 ∷ Fixed 8 8 56 ∷ Fixed 9 9 64 ∷ Fixed 10 10 92 ∷ []

-- The error sources of the standard: those, and IA-32 machine checks, corrected machine checks, non-maskable interrupts and
-- deferred machine checks. A bank of registers has 28 bytes (ACPI 6.5, 18.3.2.1, 18.3.2.2, 18.3.2.3, 18.3.2.10).
abbrev pub all_sources : List TypeSize
all_sources =
    Counted 0 40 32 28 ∷ Counted 1 48 44 28 ∷ Fixed 2 2 20 ∷ Fixed 6 6 48 ∷ Fixed 7 7 44 ∷ Fixed 8 8 56 ∷ Fixed 9 9 64
    ∷ Fixed 10 10 92 ∷ Counted 11 48 44 28 ∷ []

-- The device entries of an IVHD: those of 4 and of 8 bytes, and that with an ACPI hardware ID, which ends with a unique ID
-- (AMD I/O Virtualization Technology Specification 3.07, 5.2.2).
abbrev pub device_entries : List TypeSize
device_entries = Fixed 0 63 4 ∷ Fixed 64 127 8 ∷ Counted 240 22 21 1 ∷ []

abbrev pub rows_of : Types → List TypeSize
rows_of Sources = sources
rows_of AllSources = all_sources
rows_of DeviceEntries = device_entries

-- the bytes are one structure: their number is the length that its type or its length field gives
abbrev pub IsPiece : Sizes → List ℕ → Type 0
IsPiece (EachOf size) piece = length piece ≡ size
IsPiece (ToldAt place) piece = (end_of place ≤ length piece) × (number_in place piece ≡ length piece)
IsPiece (ByType kind types) piece = type_size kind (rows_of types) piece ≡ Some (length piece)

abbrev pub ArePieces : Sizes → List (List ℕ) → Type 0
ArePieces sizes [] = Unit {0}
ArePieces sizes (piece ∷ pieces) = IsPiece sizes piece × ArePieces sizes pieces

-- the field contains the number, or there is no field
abbrev pub Tells : Place → List ℕ → ℕ → Type 0
Tells place bytes n = 1 ≤ place_width place → number_in place bytes ≡ n

-- The pieces, in order, are all bytes from the start on. The number of structures and the offset of the first are right, if the
-- table has fields for them.
pub record Walks (w : Walk) (bytes : List ℕ) (pieces : List (List ℕ)) : Type 0 where
  pub reaches : w.start ≤ length bytes
  pub joined : drop w.start bytes ≡ concat pieces
  pub each : ArePieces w.sizes pieces
  pub counted : Tells w.count bytes (length pieces)
  pub started : Tells w.first bytes w.start

-- the offsets of the pieces, if the first is at this offset
abbrev pub offsets_from : ℕ → List (List ℕ) → List ℕ
offsets_from start [] = []
offsets_from start (piece ∷ pieces) = start ∷ offsets_from (start + length piece) pieces

-- every structure has at least one byte
abbrev pub HasSizes : Sizes → Type 0
HasSizes (EachOf size) = 1 ≤ size
HasSizes (ToldAt place) = 1 ≤ end_of place
HasSizes (ByType kind types) = 1 ≤ end_of kind

-- the least number of bytes of a structure
abbrev pub least : Sizes → ℕ
least (EachOf size) = size
least (ToldAt place) = end_of place
least (ByType kind types) = end_of kind

-- Each structure of a walk has bytes and contains the field of its type. The table's own fields end before the structures.
pub record IsSound (w : Walk) : Type 0 where
  pub has : HasSizes w.sizes
  pub kind : end_of w.kind ≤ least w.sizes
  pub count : end_of w.count ≤ w.start
  pub told : end_of w.first ≤ w.start

-- A table has at most one list of pieces.
abbrev pub OneWalk : Type 0
OneWalk = (w : Walk) (bytes : List ℕ) (ps qs : List (List ℕ)) → HasSizes w.sizes → Walks w bytes ps → Walks w bytes qs → ps ≡ qs

-- ---- the tables of the Rust crate that have structures

abbrev pub xsdt_walk : Walk
xsdt_walk = record { start = 36; sizes = EachOf 8; kind = Nowhere; count = Nowhere; first = Nowhere }

abbrev pub mcfg_walk : Walk
mcfg_walk = record { start = 44; sizes = EachOf 16; kind = Nowhere; count = Nowhere; first = Nowhere }

abbrev pub madt_walk : Walk
madt_walk = record { start = 44; sizes = ToldAt (Byte 1); kind = Byte 0; count = Nowhere; first = Nowhere }

abbrev pub hest_walk : Walk
hest_walk = record { start = 40; sizes = ByType (Word 0) Sources; kind = Word 0; count = DWord 36; first = Nowhere }

abbrev pub srat_walk : Walk
srat_walk = record { start = 48; sizes = ToldAt (Byte 1); kind = Byte 0; count = Nowhere; first = Nowhere }

abbrev pub cedt_walk : Walk
cedt_walk = record { start = 36; sizes = ToldAt (Word 2); kind = Byte 0; count = Nowhere; first = Nowhere }

abbrev pub pptt_walk : Walk
pptt_walk = record { start = 36; sizes = ToldAt (Byte 1); kind = Byte 0; count = Nowhere; first = Nowhere }

abbrev pub rhct_walk : Walk
rhct_walk = record { start = 56; sizes = ToldAt (Word 2); kind = Word 0; count = DWord 48; first = DWord 52 }

abbrev pub viot_walk : Walk
viot_walk = record { start = 48; sizes = ToldAt (Word 2); kind = Byte 0; count = Word 36; first = Word 38 }

abbrev pub rimt_walk : Walk
rimt_walk = record { start = 48; sizes = ToldAt (Word 2); kind = Byte 0; count = DWord 36; first = DWord 40 }

abbrev pub rqsc_walk : Walk
rqsc_walk = record { start = 40; sizes = ToldAt (Word 2); kind = Byte 0; count = DWord 36; first = Nowhere }

abbrev pub hmat_walk : Walk
hmat_walk = record { start = 40; sizes = ToldAt (DWord 4); kind = Word 0; count = Nowhere; first = Nowhere }

-- a signature as a number, lowest byte first
abbrev pub named : List ℕ → ℕ
named signature = carried signature

-- the walks of these tables, by their signatures
abbrev pub walks : List (List ℕ × Walk)
walks =
    (codes "XSDT", xsdt_walk)
    ∷ (codes "MCFG", mcfg_walk)
    ∷ (codes "APIC", madt_walk)
    ∷ (codes "HEST", hest_walk)
    ∷ (codes "SRAT", srat_walk)
    ∷ (codes "CEDT", cedt_walk)
    ∷ (codes "PPTT", pptt_walk)
    ∷ (codes "RHCT", rhct_walk)
    ∷ (codes "VIOT", viot_walk)
    ∷ (codes "RIMT", rimt_walk)
    ∷ (codes "RQSC", rqsc_walk)
    ∷ (codes "HMAT", hmat_walk)
    ∷ []

-- what is in the row of a signature
abbrev pub find_row : {W : Type 0} → ℕ → List (List ℕ × W) → Option W
find_row s [] = None
find_row s (row ∷ rows) = if s == named row.0 then Some row.1 else find_row s rows

-- the walk of the tables of a signature, if it is one of these
abbrev pub walk_of : ℕ → Option Walk
walk_of s = find_row s walks

-- the pieces are found by the walk; without a walk there are no pieces
abbrev pub WalksBy : Option Walk → List ℕ → List (List ℕ) → Type 0
WalksBy (Some w) bytes pieces = Walks w bytes pieces
WalksBy None bytes pieces = pieces ≡ []

-- the pieces are the structures of a table, found by the walk of its signature
abbrev pub ArePiecesOf : List ℕ → List (List ℕ) → Type 0
ArePiecesOf bytes pieces = WalksBy (walk_of (field_at 0 4 bytes)) bytes pieces

-- Bytes have at most one list of pieces.
abbrev pub OneListOfPieces : Type 0
OneListOfPieces = (bytes : List ℕ) (ps qs : List (List ℕ)) → ArePiecesOf bytes ps → ArePiecesOf bytes qs → ps ≡ qs
