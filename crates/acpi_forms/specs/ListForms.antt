-- The forms of tables that are lists of structures.
use Rattle.std.specs.Prelude.{ℕ, List, [], ◌∷◌, ◌++◌, take, drop}
use Rattle.acpi_base.specs.Fields.{NamedField, dword, preset, reserved}
use Rattle.acpi_base.specs.Walk.{xsdt_walk, mcfg_walk, madt_walk, srat_walk, cedt_walk}
use Rattle.acpi_lists.specs.Cedt.{host_bridge_fields, window_head_fields, maps_head_fields, port_association_fields}
use Rattle.acpi_lists.specs.Madt.{madt_fields}
use Rattle.acpi_lists.specs.MadtArm.{gicc_fields, gicd_fields, gic_msi_fields, gicr_fields, gic_its_fields}
use Rattle.acpi_lists.specs.MadtInterrupts.{source_override_fields, nmi_source_fields, local_apic_nmi_fields}
use Rattle.acpi_lists.specs.MadtInterrupts.{local_x2apic_nmi_fields}
use Rattle.acpi_lists.specs.MadtLocalApics.{address_override_fields, local_x2apic_fields}
use Rattle.acpi_lists.specs.MadtRiscv.{rintc_fields, imsic_fields, aplic_fields, plic_fields}
use Rattle.acpi_lists.specs.MadtX86.{processor_local_apic_fields, io_apic_fields}
use Rattle.acpi_lists.specs.Mcfg.{ecam_fields}
use Rattle.acpi_lists.specs.Srat.{memory_affinity_fields, acpi_handle_fields, pci_handle_fields, generic_initiator_fields}
use Rattle.acpi_lists.specs.Srat.{rintc_affinity_fields}
use Rattle.acpi_lists.specs.SratProcessors.{apic_affinity_fields, x2apic_affinity_fields, gicc_affinity_fields}
use Rattle.acpi_lists.specs.SratProcessors.{its_affinity_fields}
use Rattle.acpi_lists.specs.Xsdt.{entry_fields}
use Rattle.acpi_lists.specs.declared.srat.GenericInitiator.{GenericInitiator}
use Rattle.acpi_forms.specs.Rows.{TableHas, StructureHas, StructureHasAt}
use Rattle.acpi_text.specs.declared.form.TableForm.{TableForm}

-- ---- XSDT (ACPI 6.5, 5.2.8)

pub record IsXsdt (form : TableForm) : Type 0 where
  pub table : TableHas {T = Unit {0}} (λ none. []) form
  pub entry : StructureHas xsdt_walk entry_fields form

-- ---- MCFG (PCI Firmware Specification 3.3, 4.1.2)

pub record IsMcfg (form : TableForm) : Type 0 where
  pub table : TableHas {T = Unit {0}} (λ none. reserved 8 ∷ []) form
  pub ecam : StructureHas mcfg_walk ecam_fields form

-- ---- MADT (ACPI 6.5, 5.2.12)

-- structures of x86
pub record HasX86 (form : TableForm) : Type 0 where
  pub processor_local_apic : StructureHas madt_walk processor_local_apic_fields form
  pub io_apic : StructureHas madt_walk io_apic_fields form
  pub source_override : StructureHas madt_walk source_override_fields form
  pub nmi_source : StructureHas madt_walk nmi_source_fields form
  pub local_apic_nmi : StructureHas madt_walk local_apic_nmi_fields form
  pub address_override : StructureHas madt_walk address_override_fields form
  pub local_x2apic : StructureHas madt_walk local_x2apic_fields form
  pub local_x2apic_nmi : StructureHas madt_walk local_x2apic_nmi_fields form

-- structures of Arm
pub record HasArm (form : TableForm) : Type 0 where
  pub gicc : StructureHas madt_walk gicc_fields form
  pub gicd : StructureHas madt_walk gicd_fields form
  pub gic_msi : StructureHas madt_walk gic_msi_fields form
  pub gicr : StructureHas madt_walk gicr_fields form
  pub gic_its : StructureHas madt_walk gic_its_fields form

-- structures of RISC-V
pub record HasRiscv (form : TableForm) : Type 0 where
  pub rintc : StructureHas madt_walk rintc_fields form
  pub imsic : StructureHas madt_walk imsic_fields form
  pub aplic : StructureHas madt_walk aplic_fields form
  pub plic : StructureHas madt_walk plic_fields form

pub record IsMadt (form : TableForm) : Type 0 where
  pub table : TableHas madt_fields form
  pub x86 : HasX86 form
  pub arm : HasArm form
  pub riscv : HasRiscv form

-- ---- SRAT (ACPI 6.5, 5.2.16)

-- offset 36: always 1; 40: reserved
abbrev pub srat_fields : Unit {0} → List NamedField
srat_fields none = preset dword "Reserved" 1 ∷ reserved 8 ∷ []

-- an initiator, with these fields in place of the sixteen bytes of its handle
abbrev pub with_handle : List NamedField → GenericInitiator → List NamedField
with_handle handle g = take 5 (generic_initiator_fields g) ++ handle ++ drop 6 (generic_initiator_fields g)

pub record IsSrat (form : TableForm) : Type 0 where
  pub table : TableHas srat_fields form
  pub apic : StructureHas srat_walk apic_affinity_fields form
  pub memory : StructureHas srat_walk memory_affinity_fields form
  pub x2apic : StructureHas srat_walk x2apic_affinity_fields form
  pub gicc : StructureHas srat_walk gicc_affinity_fields form
  pub its : StructureHas srat_walk its_affinity_fields form
  pub acpi_initiator : (hid uid : List ℕ) → StructureHasAt 0 srat_walk (with_handle (acpi_handle_fields hid uid)) form
  pub pci_initiator : (segment bus device function : ℕ)
      → StructureHasAt 1 srat_walk (with_handle (pci_handle_fields segment bus device function)) form
  pub rintc : StructureHas srat_walk rintc_affinity_fields form

-- ---- CEDT (CXL 3.0, 9.17.1, in this project's profile)

pub record IsCedt (form : TableForm) : Type 0 where
  pub table : TableHas {T = Unit {0}} (λ none. []) form
  pub host_bridge : StructureHas cedt_walk host_bridge_fields form
  pub window : StructureHas cedt_walk window_head_fields form
  pub maps : StructureHas cedt_walk maps_head_fields form
  pub port_association : StructureHas cedt_walk port_association_fields form
