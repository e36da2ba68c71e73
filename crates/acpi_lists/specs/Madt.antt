-- The Multiple APIC Description Table (ACPI 6.5, 5.2.12).
use Rattle.std.specs.Prelude.{◌≡◌, ℕ, true, false, List, [], ◌∷◌, length, codes, Result, Err, OnOk, OnErr}
use Rattle.acpi_base.specs.Fields.{NamedField, dword, hex, flags, fields_joined}
use Rattle.acpi_base.specs.Look.{Part, flag}
use Rattle.acpi_base.specs.Object.{whole}
use Rattle.acpi_base.specs.Walk.{IsPiece, madt_walk}
use Rattle.acpi_base.specs.declared.error.Error.{Error}
use Rattle.acpi_base.specs.declared.error.Error.TheVariants.{ImsicSet}
use Rattle.acpi_base.specs.declared.oem.Oem.{Oem}
use Rattle.acpi_core.specs.Addition.{Adds}
use Rattle.acpi_core.specs.Listing.{Listing, length_limit}
use Rattle.acpi_lists.specs.MadtArm.{gicc_bytes, earlier_gicc_bytes, gicd_bytes, gic_msi_bytes, gicr_bytes, gic_its_bytes}
use Rattle.acpi_lists.specs.MadtInterrupts.{source_override_bytes, nmi_source_bytes, local_apic_nmi_bytes, local_x2apic_nmi_bytes}
use Rattle.acpi_lists.specs.MadtLocalApics.{address_override_bytes, local_x2apic_bytes}
use Rattle.acpi_lists.specs.MadtRiscv.{rintc_bytes, imsic_bytes, aplic_bytes, plic_bytes}
use Rattle.acpi_lists.specs.MadtX86.{processor_local_apic_bytes, io_apic_bytes}
use Rattle.acpi_lists.specs.declared.madt.MADT.{MADT}
use Rattle.acpi_lists.specs.declared.madt.LocalInterruptController.{LocalInterruptController}
use Rattle.acpi_lists.specs.declared.madt.LocalInterruptController.TheVariants.{Riscv, Address}
use Rattle.acpi_lists.specs.declared.madt.x86.ProcessorLocalApic.{ProcessorLocalApic}
use Rattle.acpi_lists.specs.declared.madt.x86.IoApic.{IoApic}
use Rattle.acpi_lists.specs.declared.madt.arm.Gicc.{Gicc}
use Rattle.acpi_lists.specs.declared.madt.arm.EarlierGicc.{EarlierGicc}
use Rattle.acpi_lists.specs.declared.madt.arm.Gicd.{Gicd}
use Rattle.acpi_lists.specs.declared.madt.arm.GicMsi.{GicMsi}
use Rattle.acpi_lists.specs.declared.madt.arm.Gicr.{Gicr}
use Rattle.acpi_lists.specs.declared.madt.arm.GicIts.{GicIts}
use Rattle.acpi_lists.specs.declared.madt.interrupts.InterruptSourceOverride.{InterruptSourceOverride}
use Rattle.acpi_lists.specs.declared.madt.interrupts.NmiSource.{NmiSource}
use Rattle.acpi_lists.specs.declared.madt.interrupts.LocalApicNmi.{LocalApicNmi}
use Rattle.acpi_lists.specs.declared.madt.interrupts.LocalX2ApicNmi.{LocalX2ApicNmi}
use Rattle.acpi_lists.specs.declared.madt.local_apics.LocalApicAddressOverride.{LocalApicAddressOverride}
use Rattle.acpi_lists.specs.declared.madt.local_apics.ProcessorLocalX2Apic.{ProcessorLocalX2Apic}
use Rattle.acpi_lists.specs.declared.madt.riscv.RINTC.{RINTC}
use Rattle.acpi_lists.specs.declared.madt.riscv.IMSIC.{IMSIC}
use Rattle.acpi_lists.specs.declared.madt.riscv.APLIC.{APLIC}
use Rattle.acpi_lists.specs.declared.madt.riscv.PLIC.{PLIC}

-- Local Interrupt Controller Address
abbrev pub controller_address : LocalInterruptController → ℕ
controller_address Riscv = 0
controller_address (Address address) = address

-- Multiple APIC Flags
abbrev pub madt_bits : List Part
madt_bits =
    flag 0x1 "PCAT_COMPAT"
    ∷ []

abbrev pub madt_fields_of : LocalInterruptController → ℕ → List NamedField
madt_fields_of controller bits =
    hex dword "Local Interrupt Controller Address" (controller_address controller)  -- 36
    ∷ flags madt_bits dword "Flags" bits  -- 40
    ∷ []

-- those of a table of `new`
abbrev pub madt_fields : LocalInterruptController → List NamedField
madt_fields controller = madt_fields_of controller 0

-- a table of a revision without structures
abbrev pub madt_of : ℕ → Oem → LocalInterruptController → ℕ → Listing
madt_of revision oem controller bits = record {
  signature = codes "APIC";
  revision = revision;
  oem = oem;
  before = fields_joined (madt_fields_of controller bits);
  count_width = 0;
  after = [];
  limit = length_limit;
  structures = [];
}

-- that of `new`
abbrev pub madt : Oem → LocalInterruptController → Listing
madt oem controller = madt_of 1 oem controller 0

-- The first IMSIC is added like any structure. A second one returns `ImsicSet`, and the table is unchanged.
pub record AddsImsic (result : Result Unit Error) (old : MADT) (imsic : List ℕ) (new : MADT) : Type 0 where
  pub first : old.has_imsic ≡ false → Adds result old.table (whole imsic) new.table
  pub again : old.has_imsic ≡ true → (result ≡ Err ImsicSet) × (new ≡ old)
  pub ok : OnOk result (new.has_imsic ≡ true)
  pub err : OnErr result (new.has_imsic ≡ old.has_imsic)

-- The byte at offset 1 is a structure's length, for all values of its fields. A hardware id has eight bytes.
pub record StructuresTellTheirLength : Type 0 where
  pub processor_local_apic : (s : ProcessorLocalApic) → IsPiece madt_walk.sizes (processor_local_apic_bytes s)
  pub io_apic : (s : IoApic) → IsPiece madt_walk.sizes (io_apic_bytes s)
  pub interrupt_source_override : (s : InterruptSourceOverride) → IsPiece madt_walk.sizes (source_override_bytes s)
  pub nmi_source : (s : NmiSource) → IsPiece madt_walk.sizes (nmi_source_bytes s)
  pub local_apic_nmi : (s : LocalApicNmi) → IsPiece madt_walk.sizes (local_apic_nmi_bytes s)
  pub address_override : (s : LocalApicAddressOverride) → IsPiece madt_walk.sizes (address_override_bytes s)
  pub local_x2apic : (s : ProcessorLocalX2Apic) → IsPiece madt_walk.sizes (local_x2apic_bytes s)
  pub local_x2apic_nmi : (s : LocalX2ApicNmi) → IsPiece madt_walk.sizes (local_x2apic_nmi_bytes s)
  pub gicc : (s : Gicc) → IsPiece madt_walk.sizes (gicc_bytes s)
  pub earlier_gicc : (s : EarlierGicc) → IsPiece madt_walk.sizes (earlier_gicc_bytes s)
  pub gicd : (s : Gicd) → IsPiece madt_walk.sizes (gicd_bytes s)
  pub gic_msi : (s : GicMsi) → IsPiece madt_walk.sizes (gic_msi_bytes s)
  pub gicr : (s : Gicr) → IsPiece madt_walk.sizes (gicr_bytes s)
  pub gic_its : (s : GicIts) → IsPiece madt_walk.sizes (gic_its_bytes s)
  pub rintc : (s : RINTC) → IsPiece madt_walk.sizes (rintc_bytes s)
  pub imsic : (s : IMSIC) → IsPiece madt_walk.sizes (imsic_bytes s)
  pub aplic : (s : APLIC) → length s.hardware_id ≡ 8 → IsPiece madt_walk.sizes (aplic_bytes s)
  pub plic : (s : PLIC) → length s.hardware_id ≡ 8 → IsPiece madt_walk.sizes (plic_bytes s)
