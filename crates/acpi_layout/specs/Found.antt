-- The tables that an operating system finds from the RSDP on (ACPI 6.5, 5.2.5 to 5.2.10).
use Rattle.std.specs.Prelude.{◌≡◌, ℕ, ◌+◌, ◌*◌, ◌/◌, ◌%◌, ◌^◌, ◌<◌, ◌≤◌, List, [], ◌∷◌, ◌++◌, length, sum, take, codes}
use Rattle.std.specs.Prelude.{slice_index, slice_index_or, nat_lt, ◌⊎◌, ◌==◌, ◌&&◌, Bool, true, false}
use Rattle.std.specs.Prelude.{if◌then◌else◌, Option, Some, None}
use Rattle.std.specs.List.{All}
use Rattle.acpi_base.specs.Bytes.{field_at}
use Rattle.acpi_base.specs.Table.{IsTrueTable}
use Rattle.acpi_layout.specs.declared.located.Located.{Located}
use Rattle.acpi_layout.specs.declared.root.Root.{Root}
use Rattle.acpi_layout.specs.declared.root.Root.TheVariants.{Xsdt, Rsdt}
use Rattle.acpi_layout.specs.Addresses.{Space, image_at, LiesIn, bytes_in}

-- ---- tables at addresses

-- the table of this length at an address, whose first four bytes are its signature
abbrev pub located : Space → ℕ → ℕ → Located
located memory address n = record { address = address; length = n; signature = take 4 (bytes_in memory address n) }

-- all bytes of a table
abbrev pub contents : Space → Located → List ℕ
contents memory table = bytes_in memory table.address table.length

-- A table with the standard header is at this address (5.2.6): its length is the one at offset 4, and all of it is in the image.
pub record IsTableAt (memory : Space) (address : ℕ) (table : Located) : Type 0 where
  pub header : LiesIn memory address 36
  pub is : table ≡ located memory address (field_at 4 4 (bytes_in memory address 36))
  pub whole : LiesIn memory address table.length
  pub has_header : 36 ≤ table.length

-- ---- each table

-- The RSDP of revision 2 at this address (5.2.5.3). The checksum at offset 8 is that of the first 20 bytes, and the one at 32
-- that of all.
pub record IsPointer (memory : Space) (address : ℕ) (rsdp : Located) : Type 0 where
  pub whole : LiesIn memory address 36
  pub is : rsdp ≡ located memory address 36
  pub signature : take 8 (bytes_in memory address 36) ≡ codes "RSD PTR "
  pub checksum : sum (take 20 (bytes_in memory address 36)) % 256 ≡ 0
  pub revision : field_at 15 1 (bytes_in memory address 36) ≡ 2
  pub tells : field_at 20 4 (bytes_in memory address 36) ≡ 36
  pub extended_checksum : sum (bytes_in memory address 36) % 256 ≡ 0

-- The RSDP of an earlier revision at this address, which has 20 bytes (5.2.5.3).
pub record IsOldPointer (memory : Space) (address : ℕ) (rsdp : Located) : Type 0 where
  pub whole : LiesIn memory address 20
  pub is : rsdp ≡ located memory address 20
  pub signature : take 8 (bytes_in memory address 20) ≡ codes "RSD PTR "
  pub checksum : sum (bytes_in memory address 20) % 256 ≡ 0
  pub revision : field_at 15 1 (bytes_in memory address 20) < 2

-- The XSDT (5.2.8), the RSDT (5.2.7) or the DSDT (5.2.11.1) at this address, by its signature.
pub record IsNamedTableAt (memory : Space) (signature : List ℕ) (address : ℕ) (table : Located) : Type 0 where
  pub is_table : IsTableAt memory address table
  pub is_named : table.signature ≡ signature

-- The addresses that the XSDT lists, in order (5.2.8): after its header, it has 8 bytes for each.
pub record AreAddresses (memory : Space) (xsdt : Located) (addresses : List ℕ) : Type 0 where
  pub counted : xsdt.length ≡ 36 + 8 * length addresses
  pub each : (i : ℕ) → i < length addresses
      → slice_index addresses i ≡ field_at (36 + 8 * i) 8 (contents memory xsdt)

-- ---- by an XSDT, or by an RSDT

-- the RSDP that points to such a table
abbrev pub IsPointerTo : Root → Space → ℕ → Located → Type 0
IsPointerTo Xsdt memory address rsdp = IsPointer memory address rsdp
IsPointerTo Rsdt memory address rsdp = IsOldPointer memory address rsdp

-- the address that it has
abbrev pub root_address : Root → List ℕ → ℕ
root_address Xsdt rsdp = field_at 24 8 rsdp
root_address Rsdt rsdp = field_at 16 4 rsdp

-- where its field ends
abbrev pub root_address_end : Root → ℕ
root_address_end Xsdt = 32
root_address_end Rsdt = 20

abbrev pub root_signature : Root → List ℕ
root_signature Xsdt = codes "XSDT"
root_signature Rsdt = codes "RSDT"

-- how many bytes it has for the address of a table
abbrev pub entry_width : Root → ℕ
entry_width Xsdt = 8
entry_width Rsdt = 4

-- The least length of a FADT: an XSDT lists one whose fields go up to X_DSDT, which ends at 148, and an RSDT one whose fields go
-- up to Flags, which ends at 116.
abbrev pub least_fadt : Root → ℕ
least_fadt Xsdt = 148
least_fadt Rsdt = 116

-- the tables that such a table lists, in order, after its header
pub record AreEntriesOf (root : Root) (memory : Space) (listing : Located) (entries : List Located) : Type 0 where
  pub counted : listing.length ≡ 36 + entry_width root * length entries
  pub each : (i : ℕ) (d : Located) → i < length entries
      → IsTableAt memory (field_at (36 + entry_width root * i) (entry_width root) (contents memory listing))
      (slice_index_or entries i d)

-- The FADT (5.2.9) is the only one of these tables that has its signature, and it has at least this length.
pub record IsOnlyFadt (least : ℕ) (tables : List Located) (fadt : Located) : Type 0 where
  pub index : ℕ
  pub inside : index < length tables
  pub is : (d : Located) → slice_index_or tables index d ≡ fadt
  pub signature : fadt.signature ≡ codes "FACP"
  pub only : (i : ℕ) (d : Located) → i < length tables → (slice_index_or tables i d).signature ≡ codes "FACP" → i ≡ index
  pub has_addresses : least ≤ fadt.length

-- The XSDT or the RSDT to which the RSDP at this address points.
pub record IsRoot (root : Root) (memory : Space) (rsdp : ℕ) (listing : Located) : Type 0 where
  pub pointer : Located
  pub pointer_is : IsPointerTo root memory rsdp pointer
  pub is : IsNamedTableAt memory (root_signature root) (root_address root (contents memory pointer)) listing

-- The FADT to which the RSDP at this address leads.
pub record IsFadt (root : Root) (memory : Space) (rsdp : ℕ) (fadt : Located) : Type 0 where
  pub listing : Located
  pub entries : List Located
  pub listing_is : IsRoot root memory rsdp listing
  pub entries_are : AreEntriesOf root memory listing entries
  pub is : IsOnlyFadt (least_fadt root) entries fadt

-- The address that a FADT has in two fields (5.2.9): that of 64 bits if it isn't 0, and that of 32 bits otherwise.
unfoldable pub address_of : List ℕ → ℕ → ℕ → ℕ
address_of fadt low high = if field_at high 8 fadt == 0 then field_at low 4 fadt else field_at high 8 fadt

-- A FADT that an RSDT lists may end before the field of 64 bits.
abbrev pub address_in : Root → List ℕ → ℕ → ℕ → ℕ
address_in Xsdt fadt low high = address_of fadt low high
address_in Rsdt fadt low high = if nat_lt (length fadt) (high + 8) then field_at low 4 fadt else address_of fadt low high

-- FIRMWARE_CTRL is at offset 36, and X_FIRMWARE_CTRL at 132.
abbrev pub facs_address : Root → List ℕ → ℕ
facs_address root fadt = address_in root fadt 36 132

-- DSDT is at offset 40, and X_DSDT at 140.
abbrev pub dsdt_address : Root → List ℕ → ℕ
dsdt_address root fadt = address_in root fadt 40 140

-- The FACS at this address (5.2.10), which has no checksum.
pub record IsControlAt (memory : Space) (address : ℕ) (facs : Located) : Type 0 where
  pub whole : LiesIn memory address 64
  pub is : facs ≡ located memory address 64
  pub signature : facs.signature ≡ codes "FACS"
  pub tells : field_at 4 4 (bytes_in memory address 64) ≡ 64

-- HW_REDUCED_ACPI: bit 20 of a FADT's Flags (5.2.9).
abbrev pub is_reduced : ℕ → Bool
is_reduced flags = flags / 2 ^ 20 % 2 == 1

-- Whether a FADT says that there is no FACS (5.2.9): HW_REDUCED_ACPI is set in Flags at offset 112, and both fields with the
-- address of the FACS are 0.
abbrev pub has_no_control : Root → List ℕ → Bool
has_no_control root fadt = is_reduced (field_at 112 4 fadt) && (facs_address root fadt == 0)

-- The FACS of a FADT, or none.
abbrev pub IsControlOf : Root → Space → List ℕ → Option Located → Type 0
IsControlOf root memory fadt None = has_no_control root fadt ≡ true
IsControlOf root memory fadt (Some facs) = (has_no_control root fadt ≡ false) × IsControlAt memory (facs_address root fadt) facs

-- a table, if there is one
abbrev pub if_found : Option Located → List Located
if_found None = []
if_found (Some table) = table ∷ []

-- ---- no two overlap

-- one ends before the other begins
abbrev pub IsApart : Located → Located → Type 0
IsApart a b = (a.address + a.length ≤ b.address) ⊎ (b.address + b.length ≤ a.address)

abbrev pub AreApart : List Located → Type 0
AreApart [] = Unit {0}
AreApart (table ∷ tables) = All (IsApart table) tables × AreApart tables

-- ---- all of them

-- What is found in memory. The RSDP at the address rsdp points to the XSDT, or to the RSDT. Its entries point to the FADT and the
-- others. The FADT points to the FACS, or says that there is none, and to the DSDT.
pub record Found (root : Root) (memory : Space) (rsdp : ℕ) : Type 0 where
  pub pointer : Located
  pub listing : Located
  pub entries : List Located
  pub fadt : Located
  pub facs : Option Located
  pub dsdt : Located
  pub pointer_is : IsPointerTo root memory rsdp pointer
  pub listing_is : IsNamedTableAt memory (root_signature root) (root_address root (contents memory pointer)) listing
  pub entries_are : AreEntriesOf root memory listing entries
  pub fadt_is : IsOnlyFadt (least_fadt root) entries fadt
  pub facs_is : IsControlOf root memory (contents memory fadt) facs
  pub dsdt_is : IsNamedTableAt memory (codes "DSDT") (dsdt_address root (contents memory fadt)) dsdt

-- these tables, in the order in which they are found
abbrev pub tables_of : {root : Root} {memory : Space} {rsdp : ℕ} → Found root memory rsdp → List Located
tables_of found = found.pointer ∷ found.listing ∷ (found.entries ++ (if_found found.facs ++ (found.dsdt ∷ [])))

-- This memory has these tables: they are found. Each with the standard header has its length and sums to zero, and no two
-- overlap, so none is listed twice.
pub record HasTablesOf (root : Root) (memory : Space) (rsdp : ℕ) (tables : List Located) : Type 0 where
  pub found : Found root memory rsdp
  pub listed : tables ≡ tables_of found
  pub apart : AreApart tables
  pub listing_is_correct : IsTrueTable (contents memory found.listing)
  pub entries_are_correct : All (λ table. IsTrueTable (contents memory table)) found.entries
  pub dsdt_is_correct : IsTrueTable (contents memory found.dsdt)

-- The memory has these tables, which an XSDT lists.
abbrev pub HasTables : Space → ℕ → List Located → Type 0
HasTables memory rsdp tables = HasTablesOf Xsdt memory rsdp tables

-- These bytes, from the address base on, are the image of these tables, which an XSDT or an RSDT lists.
abbrev pub IsImageOf : Root → List ℕ → ℕ → ℕ → List Located → Type 0
IsImageOf root bytes base rsdp tables = HasTablesOf root (image_at base bytes) rsdp tables

-- The same, listed by an XSDT.
abbrev pub IsImage : List ℕ → ℕ → ℕ → List Located → Type 0
IsImage bytes base rsdp tables = IsImageOf Xsdt bytes base rsdp tables

-- The same bytes are the image of one list of tables at most, for one base and one address of the RSDP.
abbrev pub ImagesHaveOneList : Type 0
ImagesHaveOneList =
    (root : Root) (bytes : List ℕ) (base rsdp : ℕ) (t u : List Located)
    → IsImageOf root bytes base rsdp t → IsImageOf root bytes base rsdp u → t ≡ u

-- ---- the addresses alone

-- These addresses are those that the XSDT lists to which the RSDP at the address rsdp points. Nothing is said of what is there.
pub record Lists (memory : Space) (rsdp : ℕ) (addresses : List ℕ) : Type 0 where
  pub xsdt : Located
  pub xsdt_is : IsRoot Xsdt memory rsdp xsdt
  pub addresses_are : AreAddresses memory xsdt addresses

-- The same of bytes from the address base on.
abbrev pub AreListed : ℕ → List ℕ → ℕ → List ℕ → Type 0
AreListed base bytes rsdp addresses = Lists (image_at base bytes) rsdp addresses

-- The same bytes list one list of addresses at most, for one base and one address of the RSDP.
abbrev pub ImagesListOnce : Type 0
ImagesListOnce =
    (bytes : List ℕ) (base rsdp : ℕ) (a b : List ℕ) → AreListed base bytes rsdp a → AreListed base bytes rsdp b → a ≡ b
