-- Why bytes aren't an image. Each line is a cause, and ends with the fault for it and the address of the table where it is.
use Rattle.std.specs.Prelude.{◌≡◌, ◌≢◌, ℕ, ◌+◌, ◌*◌, ◌%◌, ◌<◌, ◌≤◌, List, sum, take, drop, codes}
use Rattle.std.specs.Prelude.{slice_get, false, Some}
use Rattle.std.specs.List.{All, Contains}
use Rattle.acpi_base.specs.Bytes.{field_at}
use Rattle.acpi_base.specs.Table.{IsTrueTable}
use Rattle.acpi_layout.specs.declared.fault.ImageFault.{ImageFault}
use Rattle.acpi_layout.specs.declared.fault.ImageFault.TheVariants as faults
use Rattle.acpi_layout.specs.declared.located.Located.{Located}
use Rattle.acpi_layout.specs.Addresses.{Space, image_at, LiesIn, bytes_in}
use Rattle.acpi_layout.specs.Found.{contents, IsTableAt, IsPointerTo, root_signature, root_address, entry_width, least_fadt}
use Rattle.acpi_layout.specs.Found.{IsRoot, AreEntriesOf, IsFadt, facs_address, dsdt_address}
use Rattle.acpi_layout.specs.Found.{has_no_control, IsApart, AreApart, Found, tables_of}
use Rattle.acpi_layout.specs.declared.root.Root.{Root}
use Rattle.acpi_layout.specs.declared.root.Root.TheVariants.{Xsdt, Rsdt}

-- ---- a table at an address

-- the length in the standard header at an address (5.2.6)
abbrev pub told_length : Space → ℕ → ℕ
told_length memory address = field_at 4 4 (bytes_in memory address 36)

-- No table with the standard header is at this address.
pub data IsTableFault (memory : Space) (address : ℕ) : ImageFault → Type 0 where
  header_is_outside : ¬ LiesIn memory address 36 → IsTableFault memory address (faults.Outside address)
  table_is_short : told_length memory address < 36 → IsTableFault memory address (faults.Length address)
  table_is_outside : ¬ LiesIn memory address (told_length memory address)
      → IsTableFault memory address (faults.Outside address)

-- No table with this signature is at this address.
pub data IsNamedTableFault (memory : Space) (signature : List ℕ) (address : ℕ) : ImageFault → Type 0 where
  no_table : {e : ImageFault} → IsTableFault memory address e → IsNamedTableFault memory signature address e
  table_has_other_signature : (table : Located) → IsTableAt memory address table → table.signature ≢ signature
      → IsNamedTableFault memory signature address (faults.Signature address)

-- No RSDP is at this address (5.2.5.3).
pub data IsPointerFault (memory : Space) (address : ℕ) : ImageFault → Type 0 where
  pointer_is_outside : ¬ LiesIn memory address 36 → IsPointerFault memory address (faults.Outside address)
  pointer_has_other_signature : take 8 (bytes_in memory address 36) ≢ codes "RSD PTR "
      → IsPointerFault memory address (faults.Signature address)
  pointer_has_other_revision : field_at 15 1 (bytes_in memory address 36) ≢ 2
      → IsPointerFault memory address (faults.Revision address)
  pointer_has_other_length : field_at 20 4 (bytes_in memory address 36) ≢ 36
      → IsPointerFault memory address (faults.Length address)
  pointer_has_wrong_checksum : sum (take 20 (bytes_in memory address 36)) % 256 ≢ 0
      → IsPointerFault memory address (faults.Sum address)
  pointer_has_wrong_extended_checksum : sum (bytes_in memory address 36) % 256 ≢ 0
      → IsPointerFault memory address (faults.Sum address)

-- No RSDP of an earlier revision is at this address (5.2.5.3).
pub data IsOldPointerFault (memory : Space) (address : ℕ) : ImageFault → Type 0 where
  old_pointer_is_outside : ¬ LiesIn memory address 20 → IsOldPointerFault memory address (faults.Outside address)
  old_pointer_has_other_signature : take 8 (bytes_in memory address 20) ≢ codes "RSD PTR "
      → IsOldPointerFault memory address (faults.Signature address)
  old_pointer_has_later_revision : 2 ≤ field_at 15 1 (bytes_in memory address 20)
      → IsOldPointerFault memory address (faults.Revision address)
  old_pointer_has_wrong_checksum : sum (bytes_in memory address 20) % 256 ≢ 0
      → IsOldPointerFault memory address (faults.Sum address)

-- No RSDP that points to such a table is at this address.
abbrev pub IsPointerFaultTo : Root → Space → ℕ → ImageFault → Type 0
IsPointerFaultTo Xsdt memory address e = IsPointerFault memory address e
IsPointerFaultTo Rsdt memory address e = IsOldPointerFault memory address e

-- No FACS is at this address (5.2.10).
pub data IsControlFault (memory : Space) (address : ℕ) : ImageFault → Type 0 where
  facs_is_outside : ¬ LiesIn memory address 64 → IsControlFault memory address (faults.Outside address)
  facs_has_other_signature : take 4 (bytes_in memory address 64) ≢ codes "FACS"
      → IsControlFault memory address (faults.Signature address)
  facs_has_other_length : field_at 4 4 (bytes_in memory address 64) ≢ 64
      → IsControlFault memory address (faults.Length address)

-- ---- the XSDT or the RSDT

-- There is no such table to which the RSDP at this address points.
pub data IsRootFault (root : Root) (memory : Space) (rsdp : ℕ) : ImageFault → Type 0 where
  no_pointer : {e : ImageFault} → IsPointerFaultTo root memory rsdp e → IsRootFault root memory rsdp e
  no_listing : {e : ImageFault} (pointer : Located) → IsPointerTo root memory rsdp pointer
      → IsNamedTableFault memory (root_signature root) (root_address root (contents memory pointer)) e
      → IsRootFault root memory rsdp e

-- Its length isn't that of whole entries (5.2.7 and 5.2.8).
abbrev pub HasPartOfEntry : Root → Located → Type 0
HasPartOfEntry root listing = (count : ℕ) → listing.length ≢ 36 + entry_width root * count

-- It doesn't list tables.
pub data IsEntriesFault (root : Root) (memory : Space) (listing : Located) : ImageFault → Type 0 where
  part_of_entry : HasPartOfEntry root listing → IsEntriesFault root memory listing (faults.Entries listing.address)
  entry_is_no_table : {e : ImageFault} (i : ℕ) → 36 + entry_width root * (i + 1) ≤ listing.length
      → IsTableFault memory (field_at (36 + entry_width root * i) (entry_width root) (contents memory listing)) e
      → IsEntriesFault root memory listing e

-- The memory lists no addresses (`Lists`).
pub data IsNoList (memory : Space) (rsdp : ℕ) : ImageFault → Type 0 where
  list_has_no_xsdt : {e : ImageFault} → IsRootFault Xsdt memory rsdp e → IsNoList memory rsdp e
  list_has_part_of_entry : (xsdt : Located) → IsRoot Xsdt memory rsdp xsdt → HasPartOfEntry Xsdt xsdt
      → IsNoList memory rsdp (faults.Entries xsdt.address)

-- The bytes list no addresses (`AreListed`).
abbrev pub IsListFault : List ℕ → ℕ → ℕ → ImageFault → Type 0
IsListFault bytes base rsdp e = IsNoList (image_at base bytes) rsdp e

-- ---- several tables

-- Of the tables that the table at this address lists, none is the FADT, two are, or it is shorter than the least length.
pub data IsFadtFault (least listing : ℕ) (tables : List Located) : ImageFault → Type 0 where
  no_fadt : All (λ table. table.signature ≢ codes "FACP") tables → IsFadtFault least listing tables (faults.NoFadt listing)
  second_fadt : (i : ℕ) (first second : Located) → slice_get tables i ≡ Some first → Contains (drop (i + 1) tables) second
      → first.signature ≡ codes "FACP" → second.signature ≡ codes "FACP"
      → IsFadtFault least listing tables (faults.SecondFadt second.address)
  short_fadt : (fadt : Located) → Contains tables fadt → fadt.signature ≡ codes "FACP" → fadt.length < least
      → IsFadtFault least listing tables (faults.Length fadt.address)

-- A table and one after it overlap.
pub data IsOverlap (tables : List Located) : ImageFault → Type 0 where
  overlap : (i : ℕ) (a b : Located) → slice_get tables i ≡ Some a → Contains (drop (i + 1) tables) b → ¬ IsApart a b
      → IsOverlap tables (faults.Overlap a.address b.address)

-- ---- memory

-- The memory has no tables that an XSDT or an RSDT lists (`HasTablesOf`): the step that fails, and what is found before it.
pub data HasFaultOf (root : Root) (memory : Space) (rsdp : ℕ) : ImageFault → Type 0 where
  memory_has_no_listing : {e : ImageFault} → IsRootFault root memory rsdp e → HasFaultOf root memory rsdp e
  memory_has_no_entries : {e : ImageFault} (listing : Located) → IsRoot root memory rsdp listing
      → IsEntriesFault root memory listing e
      → HasFaultOf root memory rsdp e
  memory_has_no_fadt : {e : ImageFault} (listing : Located) (entries : List Located) → IsRoot root memory rsdp listing
      → AreEntriesOf root memory listing entries → IsFadtFault (least_fadt root) listing.address entries e
      → HasFaultOf root memory rsdp e
  memory_has_no_facs : {e : ImageFault} (fadt : Located) → IsFadt root memory rsdp fadt
      → has_no_control root (contents memory fadt) ≡ false → IsControlFault memory (facs_address root (contents memory fadt)) e
      → HasFaultOf root memory rsdp e
  memory_has_no_dsdt : {e : ImageFault} (fadt : Located) → IsFadt root memory rsdp fadt
      → IsNamedTableFault memory (codes "DSDT") (dsdt_address root (contents memory fadt)) e → HasFaultOf root memory rsdp e
  memory_has_overlap : {e : ImageFault} (found : Found root memory rsdp) → IsOverlap (tables_of found) e
      → HasFaultOf root memory rsdp e
  memory_has_wrong_listing : (found : Found root memory rsdp) → AreApart (tables_of found)
      → ¬ IsTrueTable (contents memory found.listing) → HasFaultOf root memory rsdp (faults.Sum found.listing.address)
  memory_has_wrong_entry : (found : Found root memory rsdp) (table : Located) → AreApart (tables_of found)
      → Contains found.entries table → ¬ IsTrueTable (contents memory table)
      → HasFaultOf root memory rsdp (faults.Sum table.address)
  memory_has_wrong_dsdt : (found : Found root memory rsdp) → AreApart (tables_of found)
      → ¬ IsTrueTable (contents memory found.dsdt) → HasFaultOf root memory rsdp (faults.Sum found.dsdt.address)

-- The memory has no tables that an XSDT lists (`HasTables`).
abbrev pub HasFault : Space → ℕ → ImageFault → Type 0
HasFault memory rsdp e = HasFaultOf Xsdt memory rsdp e

-- The bytes are no image (`IsImageOf`).
abbrev pub IsImageFaultOf : Root → List ℕ → ℕ → ℕ → ImageFault → Type 0
IsImageFaultOf root bytes base rsdp e = HasFaultOf root (image_at base bytes) rsdp e

-- They are no image whose tables an XSDT lists (`IsImage`).
abbrev pub IsImageFault : List ℕ → ℕ → ℕ → ImageFault → Type 0
IsImageFault bytes base rsdp e = IsImageFaultOf Xsdt bytes base rsdp e
