-- The forms of the tables of an Arm machine.
use Rattle.std.specs.Prelude.{ℕ, List, [], ◌∷◌, ◌++◌}
use Rattle.acpi_arm.specs.Dbg2.{device_head_fields}
use Rattle.acpi_arm.specs.Gtdt.{timers_fields, last_fields, gt_block_head_fields, gt_block_timer_fields, generic_watchdog_fields}
use Rattle.acpi_arm.specs.Iort.{mapping_fields}
use Rattle.acpi_arm.specs.IortNodes.{its_group_head_fields, component_head_fields, root_complex_head_fields, pmcg_head_fields}
use Rattle.acpi_arm.specs.IortNodes.{range_fields, reserved_memory_head_fields}
use Rattle.acpi_arm.specs.IortSmmus.{smmu_interrupt_fields, smmu_head_fields, smmu_v3_head_fields}
use Rattle.acpi_arm.specs.declared.gtdt.Timers.{Timers}
use Rattle.acpi_base.specs.Address.{address_fields}
use Rattle.acpi_base.specs.Fields.{NamedField, dword, preset, reserved}
use Rattle.acpi_base.specs.FurtherWalk.{gtdt_walk, dbg2_walk, iort_walk}
use Rattle.acpi_forms.specs.Walks.{earlier_gtdt_walk}
use Rattle.acpi_forms.specs.Rows.{TableHas, StructureHas, StructureHasAt, EntryHas}
use Rattle.acpi_text.specs.declared.form.TableForm.{TableForm}

-- ---- GTDT (ACPI 6.5, 5.2.25)

-- 88: the number of platform timers
abbrev pub gtdt_fields : Timers × ℕ → List NamedField
gtdt_fields t = timers_fields t.0 ++ (dword "Platform Timer Count" t.1 ∷ last_fields t.0)

pub record IsGtdt (form : TableForm) : Type 0 where
  pub table : TableHas gtdt_fields form
  pub gt_block : StructureHas gtdt_walk gt_block_head_fields form
  pub timer : EntryHas 0 "GT Block Timer Structure" gt_block_timer_fields form
  pub watchdog : StructureHas gtdt_walk generic_watchdog_fields form

-- ---- GTDT before revision 3 (ACPI 6.2, 5.2.24)

-- 88: the number of platform timers; 92: the offset of the first
abbrev pub earlier_gtdt_fields : Timers × ℕ → List NamedField
earlier_gtdt_fields t =
    timers_fields t.0 ++ (dword "Platform Timer Count" t.1 ∷ preset dword "Platform Timer Offset" 96 ∷ [])

pub record IsEarlierGtdt (form : TableForm) : Type 0 where
  pub table : TableHas earlier_gtdt_fields form
  pub gt_block : StructureHas earlier_gtdt_walk gt_block_head_fields form
  pub timer : EntryHas 0 "GT Block Timer Structure" gt_block_timer_fields form
  pub watchdog : StructureHas earlier_gtdt_walk generic_watchdog_fields form

-- ---- DBG2 (Microsoft)

-- 36: the offset of the first device; 40: the number of devices
abbrev pub dbg2_fields : ℕ × ℕ → List NamedField
dbg2_fields t =
    dword "OffsetDbgDeviceInfo" t.0
    ∷ dword "NumberDbgDeviceInfo" t.1
    ∷ []

pub record IsDbg2 (form : TableForm) : Type 0 where
  pub table : TableHas dbg2_fields form
  pub device : StructureHas dbg2_walk device_head_fields form
  pub address : EntryHas 0 "BaseAddressRegister" address_fields form

-- ---- IORT (Arm DEN0049E.d)

-- 36: the number of nodes; 40: the offset of the first; 44: reserved
abbrev pub iort_fields : ℕ × ℕ → List NamedField
iort_fields t =
    dword "Number of IORT Nodes" t.0
    ∷ dword "Offset to Array of IORT Nodes" t.1
    ∷ reserved 4
    ∷ []

pub record IsIort (form : TableForm) : Type 0 where
  pub table : TableHas iort_fields form
  pub its_group : StructureHas iort_walk its_group_head_fields form
  pub component : StructureHas iort_walk component_head_fields form
  pub component_mapping : EntryHas 1 "ID Mapping" mapping_fields form
  pub root_complex : StructureHasAt 40 iort_walk root_complex_head_fields form
  pub root_complex_mapping : EntryHas 2 "ID Mapping" mapping_fields form
  pub smmu : StructureHas iort_walk smmu_head_fields form
  pub context_interrupt : EntryHas 3 "Context Interrupt" smmu_interrupt_fields form
  pub pmu_interrupt : EntryHas 3 "PMU Interrupt" smmu_interrupt_fields form
  pub smmu_mapping : EntryHas 3 "ID Mapping" mapping_fields form
  pub smmu_v3 : StructureHas iort_walk smmu_v3_head_fields form
  pub smmu_v3_mapping : EntryHas 4 "ID Mapping" mapping_fields form
  pub pmcg : StructureHas iort_walk pmcg_head_fields form
  pub pmcg_mapping : EntryHas 5 "ID Mapping" mapping_fields form
  pub reserved_memory : StructureHas iort_walk reserved_memory_head_fields form
  pub range : EntryHas 6 "Memory Range Descriptor" range_fields form
  pub reserved_memory_mapping : EntryHas 6 "ID Mapping" mapping_fields form
