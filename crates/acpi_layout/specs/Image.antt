-- The image of a guest's tables: all bytes from one address on. Counted from there, a place is a multiple of 8 or 16
-- exactly where its address is, since the address is a multiple of 64.
use Rattle.std.specs.Prelude.{◌≡◌, ◌+◌, ◌-◌, ◌*◌, ◌%◌, ◌^◌, ℕ, List, [], ◌∷◌, ◌++◌, length, map, nat_lt, ◌&&◌, Bool}
use Rattle.std.specs.Prelude.{if◌then◌else◌, Option, Some, None}
use Rattle.acpi_base.specs.declared.error.Error.{Error}
use Rattle.acpi_base.specs.declared.error.Error.TheVariants.{FieldWidth}
use Rattle.acpi_base.specs.declared.oem.Oem.{Oem}
use Rattle.acpi_base.specs.Bytes.{le, zeros}
use Rattle.acpi_base.specs.Object.{Object, all_of}
use Rattle.acpi_core.specs.Listing.{Listing, bytes_of}
use Rattle.acpi_fixed.specs.declared.fadt.FADTBuilder.{FADTBuilder}
use Rattle.acpi_fixed.specs.declared.fadt.Flags.TheVariants.{HwReducedAcpi}
use Rattle.acpi_fixed.specs.Fadt.{fadt_bytes, with_dsdt, with_facs, with_flag}
use Rattle.acpi_fixed.specs.Rsdp.{rsdp_bytes, rsdp_for}
use Rattle.acpi_lists.specs.Xsdt.{xsdt}

-- ---- one after another

-- how far it is to the next multiple of a unit
abbrev pub gap : ℕ → ℕ → ℕ
gap unit place = (unit - place % unit) % unit

-- bytes, and zeros after them up to the next multiple
abbrev pub padded : ℕ → List ℕ → List ℕ
padded unit bytes = bytes ++ zeros (gap unit (length bytes))

-- What is laid so far: the bytes, and where among them the tables begin that the XSDT lists.
pub record Laid : Type 0 where
  pub bytes : List ℕ
  pub places : List ℕ

-- one table more, at the next multiple of 8
abbrev pub placed : List ℕ → Laid → Laid
placed table laid = record { bytes = padded 8 laid.bytes ++ table; places = laid.places ++ length (padded 8 laid.bytes) ∷ [] }

abbrev pub all_placed : List (List ℕ) → Laid → Laid
all_placed [] laid = laid
all_placed (table ∷ tables) laid = all_placed tables (placed table laid)

-- ---- the FACS, which a hardware-reduced machine needn't have (ACPI 6.5, 5.2.9)

-- its bytes, or none
abbrev pub control_bytes : Option (List ℕ) → List ℕ
control_bytes None = []
control_bytes (Some facs) = facs

-- its address, or 0
abbrev pub control_address : ℕ → Option (List ℕ) → ℕ
control_address base None = 0
control_address base (Some facs) = base

-- the FADT of a machine without one
abbrev pub reduced : FADTBuilder → FADTBuilder
reduced fadt = with_flag HwReducedAcpi fadt

-- ---- what points to what

-- the FADT with the addresses of the FACS and the DSDT, in its fields of 64 bits
abbrev pub pointing : ℕ → ℕ → FADTBuilder → FADTBuilder
pointing facs_at dsdt_at fadt = with_dsdt 0 dsdt_at (with_facs 0 facs_at fadt)

-- the same where the FACS, if there is one, is at base, and the DSDT after it
abbrev pub pointed_fadt : ℕ → Option (List ℕ) → FADTBuilder → FADTBuilder
pointed_fadt base facs fadt = pointing (control_address base facs) (base + length (control_bytes facs)) fadt

-- the XSDT whose entries are the addresses of these places
abbrev pub listing : ℕ → Oem → List ℕ → Listing
listing base oem places = record (xsdt oem) { structures = map (λ place. le 8 (base + place)) places }

-- ---- the image

-- The bytes from an address on, the RSDP's address, and where among the bytes the FADT and the tables begin.
pub record Picture : Type 0 where
  pub bytes : List ℕ
  pub rsdp : ℕ
  pub places : List ℕ

-- the FACS if there is one, the DSDT after it, and then the FADT and the tables in order
abbrev pub tables_laid : ℕ → Option (List ℕ) → List ℕ → FADTBuilder → List (List ℕ) → Laid
tables_laid base facs dsdt fadt tables =
    all_placed (fadt_bytes (pointed_fadt base facs fadt) ∷ tables) (record { bytes = control_bytes facs ++ dsdt; places = [] })

-- the XSDT at the next multiple of 8, and the RSDP at the next multiple of 16
abbrev pub with_xsdt : ℕ → Oem → Laid → List ℕ
with_xsdt base oem laid = padded 8 laid.bytes ++ bytes_of (listing base oem laid.places)

abbrev pub with_pointer : ℕ → Oem → Laid → Picture
with_pointer base oem laid = record {
  bytes = padded 16 (with_xsdt base oem laid) ++ rsdp_bytes (rsdp_for oem.id (base + length (padded 8 laid.bytes)));
  rsdp = base + length (padded 16 (with_xsdt base oem laid));
  places = laid.places;
}

abbrev pub image : ℕ → Oem → Option (List ℕ) → List ℕ → FADTBuilder → List (List ℕ) → Picture
image base oem facs dsdt fadt tables = with_pointer base oem (tables_laid base facs dsdt fadt tables)

-- ---- where there is none

-- the bytes of tables that are whole
abbrev pub fronts : List Object → List (List ℕ)
fronts tables = map (λ table. table.front) tables

-- Whether each byte's address is below 2^64, and the XSDT's length, with the FADT and this many tables, below 2^32.
abbrev pub has_place : ℕ → Picture → ℕ → Bool
has_place base picture tables = nat_lt (base + length picture.bytes) (2 ^ 64 + 1) && nat_lt (36 + 8 * (1 + tables)) (2 ^ 32)

-- the end of the first table that isn't whole, else FieldWidth where there is no place
abbrev pub end_or : Option Error → Bool → Option Error
end_or (Some e) fits = Some e
end_or None fits = if fits then None else Some FieldWidth

abbrev pub image_end : ℕ → Oem → Option (List ℕ) → List ℕ → FADTBuilder → List Object → Option Error
image_end base oem facs dsdt fadt tables =
    end_or (all_of tables).end (has_place base (image base oem facs dsdt fadt (fronts tables)) (length tables))

-- Tables were placed, all of them whole.
pub record Places (tables : List Object) (old new : Laid) : Type 0 where
  pub are_whole : (all_of tables).end ≡ None
  pub laid : new ≡ all_placed (fronts tables) old
