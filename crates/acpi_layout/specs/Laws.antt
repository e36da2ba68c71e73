-- What holds of images, whatever is laid.
use Rattle.std.specs.Prelude.{◌≡◌, ℕ, ◌+◌, ◌*◌, ◌%◌, ◌^◌, ◌<◌, List, [], ◌∷◌, ◌++◌, length, slice_index_or}
use Rattle.std.specs.Prelude.{Option, Some, None}
use Rattle.acpi_base.specs.declared.oem.Oem.{Oem}
use Rattle.acpi_base.specs.Bytes.{field_at, zeros}
use Rattle.acpi_base.specs.Fields.{fields_joined}
use Rattle.acpi_base.specs.Table.{IsTrueTable}
use Rattle.acpi_core.specs.Listing.{bytes_of}
use Rattle.acpi_fixed.specs.declared.fadt.FADTBuilder.{FADTBuilder}
use Rattle.acpi_fixed.specs.Fadt.{fadt_bytes, header_fields}
use Rattle.acpi_fixed.specs.Rsdp.{rsdp_bytes, rsdp_for}
use Rattle.acpi_layout.specs.Image.{Laid, padded, control_bytes, control_address, pointed_fadt, listing, tables_laid, image}

-- bytes at an address
pub record Standing : Type 0 where
  pub address : ℕ
  pub bytes : List ℕ

-- From an address on the bytes are these, in order: at each address exactly its own, before it zeros that begin where the
-- one before ends, and nothing after the last.
abbrev pub Stand : ℕ → List Standing → List ℕ → Type 0
Stand from [] bytes = bytes ≡ []
Stand from (s ∷ more) bytes =
    (gap : ℕ) × (rest : List ℕ) × (from + gap ≡ s.address) × (bytes ≡ zeros gap ++ (s.bytes ++ rest))
    × Stand (s.address + length s.bytes) more rest

-- tables at places that are counted from base
abbrev pub standing_at : ℕ → List ℕ → List (List ℕ) → List Standing
standing_at base [] tables = []
standing_at base (place ∷ places) [] = []
standing_at base (place ∷ places) (table ∷ tables) = record { address = base + place; bytes = table }
    ∷ standing_at base places tables

-- the FACS at base, if there is one
abbrev pub standing_control : ℕ → Option (List ℕ) → List Standing
standing_control base None = []
standing_control base (Some facs) = record { address = base; bytes = facs } ∷ []

-- where the XSDT is
abbrev pub xsdt_address : ℕ → Laid → ℕ
xsdt_address base laid = base + length (padded 8 laid.bytes)

-- The RSDP at its address points to the XSDT, whose entries are the addresses of the FADT and then of the tables in order. The
-- FADT points to the FACS, if there is one, and to the DSDT. All of them stand there, and no two overlap.
pub record Stands (base : ℕ) (oem : Oem) (facs : Option (List ℕ)) (dsdt : List ℕ) (fadt : FADTBuilder) (tables : List (List ℕ))
    (laid : Laid) : Type 0 where
  pub all : Stand base
      (standing_control base facs
      ++ (record { address = base + length (control_bytes facs); bytes = dsdt }
      ∷ (standing_at base laid.places (fadt_bytes (pointed_fadt base facs fadt) ∷ tables)
      ++ (record { address = xsdt_address base laid; bytes = bytes_of (listing base oem laid.places) }
      ∷ record {
        address = (image base oem facs dsdt fadt tables).rsdp;
        bytes = rsdp_bytes (rsdp_for oem.id (xsdt_address base laid));
      } ∷ []))))
      (image base oem facs dsdt fadt tables).bytes
  pub listed : length laid.places ≡ 1 + length tables

abbrev pub ImagesStand : Type 0
ImagesStand =
    (base : ℕ) (oem : Oem) (facs : Option (List ℕ)) (dsdt : List ℕ) (fadt : FADTBuilder) (tables : List (List ℕ))
    → Stands base oem facs dsdt fadt tables (tables_laid base facs dsdt fadt tables)

-- The addresses that tables contain, read out of their bytes: the FADT's of the FACS, or 0, and of the DSDT, in its fields of 64
-- bits, with zeros in those of 32 bits; the XSDT's of the FADT and the tables, in order; the RSDP's of the XSDT.
pub record Points (base : ℕ) (oem : Oem) (facs : Option (List ℕ)) (fadt : FADTBuilder) (laid : Laid) : Type 0 where
  pub firmware_ctrl : field_at 36 4 (fadt_bytes (pointed_fadt base facs fadt)) ≡ 0
  pub dsdt : field_at 40 4 (fadt_bytes (pointed_fadt base facs fadt)) ≡ 0
  pub x_firmware_ctrl : field_at 132 8 (fadt_bytes (pointed_fadt base facs fadt)) ≡ control_address base facs
  pub x_dsdt : field_at 140 8 (fadt_bytes (pointed_fadt base facs fadt)) ≡ base + length (control_bytes facs)
  pub entries : (i : ℕ) → i < length laid.places → base + slice_index_or laid.places i 0 < 2 ^ 64
      → field_at (36 + 8 * i) 8 (bytes_of (listing base oem laid.places)) ≡ base + slice_index_or laid.places i 0
  pub xsdt : field_at 24 8 (rsdp_bytes (rsdp_for oem.id (xsdt_address base laid))) ≡ xsdt_address base laid
  pub xsdt_is_true : IsTrueTable (bytes_of (listing base oem laid.places))

-- The ids have their fields' widths, the FADT has its header, the XSDT's length fits its field, and the XSDT's address is below
-- 2^64.
abbrev pub ImagesPoint : Type 0
ImagesPoint =
    (base : ℕ) (oem : Oem) (facs : Option (List ℕ)) (fadt : FADTBuilder) (laid : Laid)
    → length oem.id ≡ 6 → length oem.table_id ≡ 8 → length (fields_joined (header_fields fadt)) ≡ 36
    → 36 + 8 * length laid.places < 2 ^ 32 → xsdt_address base laid < 2 ^ 64 → base + length (control_bytes facs) < 2 ^ 64
    → Points base oem facs fadt laid

-- each is a multiple of 8
abbrev pub AreAligned : ℕ → List ℕ → Type 0
AreAligned base [] = Unit {0}
AreAligned base (place ∷ places) = ((base + place) % 8 ≡ 0) × AreAligned base places

-- The addresses of listed tables and of the XSDT are multiples of 8, and the RSDP's is one of 16.
pub record Aligned (base : ℕ) (laid : Laid) (rsdp : ℕ) : Type 0 where
  pub listed : AreAligned base laid.places
  pub xsdt : xsdt_address base laid % 8 ≡ 0
  pub pointer : rsdp % 16 ≡ 0

abbrev pub ImagesAreAligned : Type 0
ImagesAreAligned =
    (base : ℕ) (oem : Oem) (facs : Option (List ℕ)) (dsdt : List ℕ) (fadt : FADTBuilder) (tables : List (List ℕ)) → base % 64 ≡ 0
    → Aligned base (tables_laid base facs dsdt fadt tables) (image base oem facs dsdt fadt tables).rsdp

-- From an address on, each begins less than a unit after the one before it ends.
abbrev pub AreClose : ℕ → ℕ → List Standing → Type 0
AreClose unit from [] = Unit {0}
AreClose unit from (s ∷ more) = (s.address < from + unit) × AreClose unit (s.address + length s.bytes) more

-- where the last of them ends
abbrev pub end_of : ℕ → List Standing → ℕ
end_of from [] = from
end_of from (s ∷ more) = end_of (s.address + length s.bytes) more

-- The gaps are smaller than the units: 8 for the FADT, the tables and the XSDT, and 16 for the RSDP. The DSDT has none before it.
pub record LeastGaps (base : ℕ) (oem : Oem) (facs : Option (List ℕ)) (dsdt : List ℕ) (fadt : FADTBuilder) (tables : List (List ℕ))
    (laid : Laid) : Type 0 where
  pub listed : AreClose 8 (base + length (control_bytes facs) + length dsdt)
      (standing_at base laid.places (fadt_bytes (pointed_fadt base facs fadt) ∷ tables))
  pub xsdt : xsdt_address base laid
      < end_of (base + length (control_bytes facs) + length dsdt)
      (standing_at base laid.places (fadt_bytes (pointed_fadt base facs fadt) ∷ tables))
      + 8
  pub pointer : (image base oem facs dsdt fadt tables).rsdp
      < xsdt_address base laid + length (bytes_of (listing base oem laid.places)) + 16

abbrev pub GapsAreLeast : Type 0
GapsAreLeast =
    (base : ℕ) (oem : Oem) (facs : Option (List ℕ)) (dsdt : List ℕ) (fadt : FADTBuilder) (tables : List (List ℕ))
    → LeastGaps base oem facs dsdt fadt tables (tables_laid base facs dsdt fadt tables)
