-- Images are read back: what laying makes is an image by the definition for readers.
use Rattle.std.specs.Prelude.{◌≡◌, ◌≢◌, ℕ, ◌+◌, ◌*◌, ◌^◌, ◌<◌, ◌≤◌, List, [], ◌∷◌, ◌++◌, length, map, take, codes}
use Rattle.std.specs.Prelude.{◌==◌, ◌&&◌, true, if◌then◌else◌, Option, Some, None}
use Rattle.std.specs.List.{All}
use Rattle.acpi_base.specs.declared.oem.Oem.{Oem}
use Rattle.acpi_base.specs.Bytes.{field_at}
use Rattle.acpi_base.specs.Fields.{fields_joined}
use Rattle.acpi_base.specs.Table.{IsTrueTable}
use Rattle.acpi_core.specs.Listing.{bytes_of}
use Rattle.acpi_fixed.specs.declared.fadt.FADTBuilder.{FADTBuilder}
use Rattle.acpi_fixed.specs.Fadt.{fadt_bytes, header_fields}
use Rattle.acpi_fixed.specs.Rsdp.{rsdp_bytes, rsdp_for}
use Rattle.acpi_layout.specs.declared.located.Located.{Located}
use Rattle.acpi_layout.specs.Image.{control_bytes, reduced, pointed_fadt, listing, tables_laid, image}
use Rattle.acpi_layout.specs.Laws.{Standing, standing_at, xsdt_address}
use Rattle.acpi_layout.specs.Found.{is_reduced, if_found, IsImage, AreListed}

-- a FACS of 64 bytes
pub record IsFacs (facs : List ℕ) : Type 0 where
  pub signature : take 4 facs ≡ codes "FACS"
  pub size : length facs ≡ 64
  pub tells : field_at 4 4 facs ≡ 64

-- a FACS, or none of a hardware-reduced machine
abbrev pub IsControl : FADTBuilder → Option (List ℕ) → Type 0
IsControl fadt None = is_reduced fadt.flags ≡ true
IsControl fadt (Some facs) = IsFacs facs

-- The tables are correct: a FACS, or none of a hardware-reduced machine, a DSDT, a FADT with the signature and the length that
-- `FADTBuilder::new` sets, and other tables, none of which is a FADT.
pub record AreTables (facs : Option (List ℕ)) (dsdt : List ℕ) (fadt : FADTBuilder) (tables : List (List ℕ)) : Type 0 where
  pub control : IsControl fadt facs
  pub dsdt_signature : take 4 dsdt ≡ codes "DSDT"
  pub dsdt_is_correct : IsTrueTable dsdt
  pub fadt_signature : fadt.signature ≡ codes "FACP"
  pub fadt_length : fadt.length ≡ 276
  pub fadt_header : length (fields_joined (header_fields fadt)) ≡ 36
  pub are_correct : All IsTrueTable tables
  pub are_others : All (λ table. take 4 table ≢ codes "FACP") tables

-- the table of these bytes at an address
abbrev pub found_at : Standing → Located
found_at table = record { address = table.address; length = length table.bytes; signature = take 4 table.bytes }

-- The FACS as a reader finds it. It doesn't find one at the address 0 of a hardware-reduced machine.
abbrev pub found_control : ℕ → Option (List ℕ) → FADTBuilder → Option Located
found_control base None fadt = None
found_control base (Some facs) fadt =
    if is_reduced fadt.flags && (base == 0) then None else Some (found_at (record { address = base; bytes = facs }))

-- the tables that were laid, at their addresses, in the order in which a reader finds them
abbrev pub laid_tables : ℕ → Oem → Option (List ℕ) → List ℕ → FADTBuilder → List (List ℕ) → List Located
laid_tables base oem facs dsdt fadt tables =
    let made = image base oem facs dsdt fadt tables in
    let xsdt_at = xsdt_address base (tables_laid base facs dsdt fadt tables) in
    found_at (record { address = made.rsdp; bytes = rsdp_bytes (rsdp_for oem.id xsdt_at) })
    ∷ found_at (record { address = xsdt_at; bytes = bytes_of (listing base oem made.places) })
    ∷ (map found_at (standing_at base made.places (fadt_bytes (pointed_fadt base facs fadt) ∷ tables))
    ++ (if_found (found_control base facs fadt)
    ++ (found_at (record { address = base + length (control_bytes facs); bytes = dsdt })
    ∷ [])))

-- If the tables are correct and there is space for the image, it is an image of exactly these tables. The ids have the widths of
-- their fields.
abbrev pub ImagesAreFound : Type 0
ImagesAreFound =
    (base : ℕ) (oem : Oem) (facs : Option (List ℕ)) (dsdt : List ℕ) (fadt : FADTBuilder) (tables : List (List ℕ))
    → length oem.id ≡ 6 → length oem.table_id ≡ 8 → AreTables facs dsdt fadt tables
    → base + length (image base oem facs dsdt fadt tables).bytes ≤ 2 ^ 64 → 36 + 8 * (1 + length tables) < 2 ^ 32
    → IsImage (image base oem facs dsdt fadt tables).bytes base (image base oem facs dsdt fadt tables).rsdp
    (laid_tables base oem facs dsdt fadt tables)

-- If there is space for the image, its XSDT lists the addresses at which the FADT and the tables are laid, in order, whatever the
-- tables are. The ids have the widths of their fields.
abbrev pub ImagesListTheirTables : Type 0
ImagesListTheirTables =
    (base : ℕ) (oem : Oem) (facs : Option (List ℕ)) (dsdt : List ℕ) (fadt : FADTBuilder) (tables : List (List ℕ))
    → length oem.id ≡ 6 → length oem.table_id ≡ 8
    → base + length (image base oem facs dsdt fadt tables).bytes ≤ 2 ^ 64 → 36 + 8 * (1 + length tables) < 2 ^ 32
    → AreListed base (image base oem facs dsdt fadt tables).bytes (image base oem facs dsdt fadt tables).rsdp
    (map (λ place. base + place) (image base oem facs dsdt fadt tables).places)

-- The FADT that is laid without a FACS is that of a hardware-reduced machine.
abbrev pub ReducedIsTold : Type 0
ReducedIsTold = (fadt : FADTBuilder) → is_reduced (reduced fadt).flags ≡ true
