-- The image of a guest's tables below 4 GiB. An RSDT lists them (ACPI 6.5, 5.2.7), addresses have 32 bits, and the RSDP isn't a
-- part of the image: it is at an address of its own.
use Rattle.std.specs.Prelude.{◌≡◌, ◌≢◌, ◌+◌, ◌^◌, ℕ, List, [], ◌∷◌, ◌++◌, length, map, nat_lt, ◌&&◌, ◌||◌, Bool, not}
use Rattle.std.specs.Prelude.{if◌then◌else◌, Option, Some, None, Result, IfOk, IfErr, OnOk}
use Rattle.acpi_base.specs.declared.error.Error.{Error}
use Rattle.acpi_base.specs.declared.error.Error.TheVariants as errors
use Rattle.acpi_base.specs.declared.oem.Oem.{Oem}
use Rattle.acpi_base.specs.Bytes.{le}
use Rattle.acpi_base.specs.Object.{Object, all_of}
use Rattle.acpi_core.specs.Listing.{Listing, bytes_of}
use Rattle.acpi_fixed.specs.declared.fadt.FADTBuilder.{FADTBuilder}
use Rattle.acpi_fixed.specs.Fadt.{fadt_bytes, with_dsdt, with_facs}
use Rattle.acpi_fixed.specs.Rsdp.{rsdp0_bytes, rsdp0_for}
use Rattle.acpi_pc.specs.Rsdt.{rsdt}
use Rattle.acpi_layout.specs.declared.rsdt.RsdtImage.{RsdtImage}
use Rattle.acpi_layout.specs.declared.rsdt_fault.RsdtFault.{RsdtFault}
use Rattle.acpi_layout.specs.declared.rsdt_fault.RsdtFault.TheVariants.{Table, NotLow, Overlap}
use Rattle.acpi_layout.specs.Image.{Laid, padded, all_placed, control_bytes, control_address, fronts}

-- ---- what points to what

-- the FADT with the addresses of the FACS and the DSDT, in its fields of 32 bits
abbrev pub pointing_low : ℕ → ℕ → FADTBuilder → FADTBuilder
pointing_low facs_at dsdt_at fadt = with_dsdt dsdt_at 0 (with_facs facs_at 0 fadt)

-- the same where the FACS, if there is one, is at base, and the DSDT after it
abbrev pub low_fadt : ℕ → Option (List ℕ) → FADTBuilder → FADTBuilder
low_fadt base facs fadt = pointing_low (control_address base facs) (base + length (control_bytes facs)) fadt

-- the RSDT whose entries are the addresses of these places
abbrev pub low_listing : ℕ → Oem → List ℕ → Listing
low_listing base oem places = record (rsdt oem) { structures = map (λ place. le 4 (base + place)) places }

-- ---- the image

-- the FACS if there is one, the DSDT after it, and then the FADT and the tables in order
abbrev pub low_laid : ℕ → Option (List ℕ) → List ℕ → FADTBuilder → List (List ℕ) → Laid
low_laid base facs dsdt fadt tables =
    all_placed (fadt_bytes (low_fadt base facs fadt) ∷ tables) (record { bytes = control_bytes facs ++ dsdt; places = [] })

-- the address of the RSDT, at the next multiple of 8
abbrev pub rsdt_address : ℕ → Laid → ℕ
rsdt_address base laid = base + length (padded 8 laid.bytes)

-- these tables and the RSDT
abbrev pub with_rsdt : ℕ → Oem → Laid → List ℕ
with_rsdt base oem laid = padded 8 laid.bytes ++ bytes_of (low_listing base oem laid.places)

-- the RSDP, which points to the RSDT
abbrev pub low_pointer : ℕ → Oem → Laid → List ℕ
low_pointer base oem laid = rsdp0_bytes (rsdp0_for oem.id (rsdt_address base laid))

abbrev pub low_bytes : ℕ → Oem → Option (List ℕ) → List ℕ → FADTBuilder → List (List ℕ) → List ℕ
low_bytes base oem facs dsdt fadt tables = with_rsdt base oem (low_laid base facs dsdt fadt tables)

-- ---- where there is none

-- Whether each byte of this many at base, and each of the 20 of the RSDP, has an address below 2^32.
abbrev pub are_low : ℕ → ℕ → ℕ → Bool
are_low base rsdp size = nat_lt (base + size) (2 ^ 32 + 1) && nat_lt (rsdp + 20) (2 ^ 32 + 1)

-- whether the RSDP ends before these bytes begin, or begins where they end or after that
abbrev pub is_apart : ℕ → ℕ → ℕ → Bool
is_apart base rsdp size = not (nat_lt base (rsdp + 20)) || not (nat_lt rsdp (base + size))

-- the fault of tables that are whole, or none
abbrev pub place_fault : Bool → Bool → Option RsdtFault
place_fault low apart = if low then (if apart then None else Some Overlap) else Some NotLow

-- the end of the first table that isn't whole, else the fault of the places
abbrev pub fault_or : Option Error → Option RsdtFault → Option RsdtFault
fault_or (Some e) fault = Some (Table e)
fault_or None fault = fault

abbrev pub low_fault : ℕ → ℕ → Oem → Option (List ℕ) → List ℕ → FADTBuilder → List Object → Option RsdtFault
low_fault base rsdp oem facs dsdt fadt tables =
    let size = length (low_bytes base oem facs dsdt fadt (fronts tables)) in
    fault_or (all_of tables).end (place_fault (are_low base rsdp size) (is_apart base rsdp size))

-- ---- what laying returns

-- The image and the RSDP, where all tables are whole, all addresses are below 4 GiB, and the RSDP is apart from the image. Else
-- the fault is that of the first table that isn't whole, else NotLow, else Overlap. Or memory ran out.
pub record LaysLow (result : Result RsdtImage RsdtFault) (base rsdp : ℕ) (oem : Oem) (facs : Option (List ℕ)) (dsdt : List ℕ)
    (fadt : FADTBuilder) (tables : List Object) : Type 0 where
  pub bytes : IfOk result (λ made. made.bytes.items ≡ low_bytes base oem facs dsdt fadt (fronts tables))
  pub pointer : IfOk result (λ made. made.pointer ≡ low_pointer base oem (low_laid base facs dsdt fadt (fronts tables)))
  pub accepted : OnOk result (low_fault base rsdp oem facs dsdt fadt tables ≡ None)
  pub cause : IfErr result (λ e. e ≢ Table errors.Memory → low_fault base rsdp oem facs dsdt fadt tables ≡ Some e)
