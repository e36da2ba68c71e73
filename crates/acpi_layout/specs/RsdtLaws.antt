-- What holds of images with an RSDT, whatever is laid.
use Rattle.std.specs.Prelude.{◌≡◌, ℕ, ◌+◌, ◌*◌, ◌%◌, ◌^◌, ◌<◌, ◌≤◌, List, [], ◌∷◌, ◌++◌, length, sum, take, codes}
use Rattle.std.specs.Prelude.{slice_index_or, Option, Some}
use Rattle.acpi_base.specs.declared.oem.Oem.{Oem}
use Rattle.acpi_base.specs.Bytes.{field_at}
use Rattle.acpi_base.specs.Fields.{fields_joined}
use Rattle.acpi_base.specs.Table.{IsTrueTable}
use Rattle.acpi_core.specs.Listing.{bytes_of}
use Rattle.acpi_fixed.specs.declared.fadt.FADTBuilder.{FADTBuilder}
use Rattle.acpi_fixed.specs.Fadt.{fadt_bytes, header_fields}
use Rattle.acpi_layout.specs.Addresses.{bytes_at}
use Rattle.acpi_layout.specs.Image.{Laid, control_bytes, control_address}
use Rattle.acpi_layout.specs.Laws.{Stand, standing_at, standing_control, AreAligned, AreClose, end_of}
use Rattle.acpi_layout.specs.Rsdt.{low_fadt, low_listing, low_laid, rsdt_address, low_pointer, low_bytes}

-- ---- where everything stands

-- The FACS, if there is one, the DSDT, the FADT, the tables and the RSDT stand at their addresses, in this order, and no two
-- overlap.
pub record LowStands (base : ℕ) (oem : Oem) (facs : Option (List ℕ)) (dsdt : List ℕ) (fadt : FADTBuilder) (tables : List (List ℕ))
    (laid : Laid) : Type 0 where
  pub all : Stand base
      (standing_control base facs
      ++ (record { address = base + length (control_bytes facs); bytes = dsdt }
      ∷ (standing_at base laid.places (fadt_bytes (low_fadt base facs fadt) ∷ tables)
      ++ (record { address = rsdt_address base laid; bytes = bytes_of (low_listing base oem laid.places) } ∷ []))))
      (low_bytes base oem facs dsdt fadt tables)
  pub listed : length laid.places ≡ 1 + length tables

abbrev pub LowImagesStand : Type 0
LowImagesStand =
    (base : ℕ) (oem : Oem) (facs : Option (List ℕ)) (dsdt : List ℕ) (fadt : FADTBuilder) (tables : List (List ℕ))
    → LowStands base oem facs dsdt fadt tables (low_laid base facs dsdt fadt tables)

-- The addresses of listed tables and of the RSDT are multiples of 8.
pub record LowAligned (base : ℕ) (laid : Laid) : Type 0 where
  pub listed : AreAligned base laid.places
  pub rsdt : rsdt_address base laid % 8 ≡ 0

abbrev pub LowImagesAreAligned : Type 0
LowImagesAreAligned =
    (base : ℕ) (facs : Option (List ℕ)) (dsdt : List ℕ) (fadt : FADTBuilder) (tables : List (List ℕ)) → base % 64 ≡ 0
    → LowAligned base (low_laid base facs dsdt fadt tables)

-- The gaps before the FADT, the tables and the RSDT are smaller than 8. The DSDT has none before it.
pub record LowGaps (base : ℕ) (facs : Option (List ℕ)) (dsdt : List ℕ) (fadt : FADTBuilder) (tables : List (List ℕ))
    (laid : Laid) : Type 0 where
  pub listed : AreClose 8 (base + length (control_bytes facs) + length dsdt)
      (standing_at base laid.places (fadt_bytes (low_fadt base facs fadt) ∷ tables))
  pub rsdt : rsdt_address base laid
      < end_of (base + length (control_bytes facs) + length dsdt)
      (standing_at base laid.places (fadt_bytes (low_fadt base facs fadt) ∷ tables))
      + 8

abbrev pub LowGapsAreLeast : Type 0
LowGapsAreLeast =
    (base : ℕ) (facs : Option (List ℕ)) (dsdt : List ℕ) (fadt : FADTBuilder) (tables : List (List ℕ))
    → LowGaps base facs dsdt fadt tables (low_laid base facs dsdt fadt tables)

-- ---- what points to what

-- The addresses that tables contain, read out of their bytes: the FADT's of the FACS, or 0, and of the DSDT, in its fields of 32
-- bits, with zeros in those of 64 bits; the RSDT's of the FADT and the tables, in order; the RSDP's of the RSDT. The RSDT is a
-- true table. The RSDP has its signature and revision 0, and its 20 bytes sum to zero.
pub record LowPoints (base : ℕ) (oem : Oem) (facs : Option (List ℕ)) (fadt : FADTBuilder) (laid : Laid) : Type 0 where
  pub firmware_ctrl : field_at 36 4 (fadt_bytes (low_fadt base facs fadt)) ≡ control_address base facs
  pub dsdt : field_at 40 4 (fadt_bytes (low_fadt base facs fadt)) ≡ base + length (control_bytes facs)
  pub x_firmware_ctrl : field_at 132 8 (fadt_bytes (low_fadt base facs fadt)) ≡ 0
  pub x_dsdt : field_at 140 8 (fadt_bytes (low_fadt base facs fadt)) ≡ 0
  pub entries : (i : ℕ) → i < length laid.places → base + slice_index_or laid.places i 0 < 2 ^ 32
      → field_at (36 + 4 * i) 4 (bytes_of (low_listing base oem laid.places)) ≡ base + slice_index_or laid.places i 0
  pub rsdt_is_true : IsTrueTable (bytes_of (low_listing base oem laid.places))
  pub rsdt : field_at 16 4 (low_pointer base oem laid) ≡ rsdt_address base laid
  pub signature : take 8 (low_pointer base oem laid) ≡ codes "RSD PTR "
  pub revision : field_at 15 1 (low_pointer base oem laid) ≡ 0
  pub size : length (low_pointer base oem laid) ≡ 20
  pub checksum : sum (low_pointer base oem laid) % 256 ≡ 0

-- The ids have their fields' widths, the FADT has its header, the RSDT's length fits its field, and the addresses are below 2^32.
abbrev pub LowImagesPoint : Type 0
LowImagesPoint =
    (base : ℕ) (oem : Oem) (facs : Option (List ℕ)) (fadt : FADTBuilder) (laid : Laid)
    → length oem.id ≡ 6 → length oem.table_id ≡ 8 → length (fields_joined (header_fields fadt)) ≡ 36
    → 36 + 4 * length laid.places < 2 ^ 32 → rsdt_address base laid < 2 ^ 32 → base + length (control_bytes facs) < 2 ^ 32
    → LowPoints base oem facs fadt laid

-- ---- read back

-- At the addresses that are read out of the tables, the image has these tables: at that of the RSDP the RSDT, at those of the
-- RSDT the FADT and the tables in order, and at those of the FADT the FACS, if there is one, and the DSDT.
pub record LowIsFound (base : ℕ) (oem : Oem) (facs : Option (List ℕ)) (dsdt : List ℕ) (fadt : FADTBuilder)
    (tables : List (List ℕ)) (laid : Laid) (image : List ℕ) : Type 0 where
  pub rsdt_there : bytes_at base image (field_at 16 4 (low_pointer base oem laid))
      (length (bytes_of (low_listing base oem laid.places)))
      ≡ bytes_of (low_listing base oem laid.places)
  pub entries_there : (i : ℕ) (d : List ℕ) → i < 1 + length tables
      → bytes_at base image (field_at (36 + 4 * i) 4 (bytes_of (low_listing base oem laid.places)))
      (length (slice_index_or (fadt_bytes (low_fadt base facs fadt) ∷ tables) i d))
      ≡ slice_index_or (fadt_bytes (low_fadt base facs fadt) ∷ tables) i d
  pub facs_there : (control : List ℕ) → facs ≡ Some control
      → bytes_at base image (field_at 36 4 (fadt_bytes (low_fadt base facs fadt))) (length control) ≡ control
  pub dsdt_there : bytes_at base image (field_at 40 4 (fadt_bytes (low_fadt base facs fadt))) (length dsdt) ≡ dsdt

-- The ids have their fields' widths, the FADT has its header, and all addresses are below 2^32.
abbrev pub LowImagesAreFound : Type 0
LowImagesAreFound =
    (base : ℕ) (oem : Oem) (facs : Option (List ℕ)) (dsdt : List ℕ) (fadt : FADTBuilder) (tables : List (List ℕ))
    → length oem.id ≡ 6 → length oem.table_id ≡ 8 → length (fields_joined (header_fields fadt)) ≡ 36
    → base + length (low_bytes base oem facs dsdt fadt tables) ≤ 2 ^ 32
    → LowIsFound base oem facs dsdt fadt tables (low_laid base facs dsdt fadt tables) (low_bytes base oem facs dsdt fadt tables)
