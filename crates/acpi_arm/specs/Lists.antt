-- The lists that structures contain, as they are read from their bytes.
use Rattle.std.specs.Prelude.{◌≡◌, ℕ, ◌+◌, ◌^◌, ◌<◌, ◌≤◌, List, [], ◌∷◌, ◌++◌, length, string_bytes}
use Rattle.acpi_base.specs.Bytes.{field_at}
use Rattle.acpi_core.specs.Offset.{StandIn}
use Rattle.acpi_arm.specs.Dbg2.{Device, device_bytes}
use Rattle.acpi_arm.specs.Gtdt.{gt_block_bytes}
use Rattle.acpi_arm.specs.IortNodes.{its_group_bytes, component_bytes, root_complex_bytes, pmcg_bytes, reserved_memory_bytes}
use Rattle.acpi_arm.specs.IortNodes.{earlier_root_complex_bytes}
use Rattle.acpi_arm.specs.IortSmmus.{smmu_bytes, smmu_v3_bytes}
use Rattle.acpi_arm.specs.declared.gtdt.GtBlock.{GtBlock}
use Rattle.acpi_arm.specs.declared.iort.components.NamedComponent.{NamedComponent}
use Rattle.acpi_arm.specs.declared.iort.components.RootComplex.{RootComplex}
use Rattle.acpi_arm.specs.declared.iort.components.EarlierRootComplex.{EarlierRootComplex}
use Rattle.acpi_arm.specs.declared.iort.its.ItsGroup.{ItsGroup}
use Rattle.acpi_arm.specs.declared.iort.monitor.Pmcg.{Pmcg}
use Rattle.acpi_arm.specs.declared.iort.regions.ReservedMemory.{ReservedMemory}
use Rattle.acpi_arm.specs.declared.iort.smmus.Smmu.{Smmu}
use Rattle.acpi_arm.specs.declared.iort.smmus.SmmuV3.{SmmuV3}

-- A structure has a list of these bytes: a field of w bytes contains how many entries or bytes it has, and if it isn't empty
-- another field of two or four bytes contains its offset in the structure.
pub record HasList (bytes : List ℕ) (count_at w count offset_at offset_width : ℕ) (list : List ℕ) : Type 0 where
  pub counted : field_at count_at w bytes ≡ count
  pub stands : 1 ≤ count → StandIn bytes (field_at offset_at offset_width bytes) list

-- The bytes of a block of timers contain their number and their offset, 20, and have them there.
abbrev pub TimersAreRead : Type 0
TimersAreRead = (b : GtBlock) → b.timers.count < 2 ^ 32 → HasList (gt_block_bytes b) 12 4 b.timers.count 16 4 b.timers.bytes

-- The bytes of a device of less than 65,536 bytes contain the numbers and the offsets of its lists, and have them there. The name
-- has a zero after it.
pub record DevicesAreRead : Type 0 where
  pub addresses : (d : Device) → length (device_bytes d) < 2 ^ 16 → d.count < 2 ^ 8
      → HasList (device_bytes d) 3 1 d.count 18 2 d.addresses
  pub sizes : (d : Device) → length (device_bytes d) < 2 ^ 16 → d.count < 2 ^ 8
      → HasList (device_bytes d) 3 1 d.count 20 2 d.sizes
  pub names : (d : Device) → length (device_bytes d) < 2 ^ 16
      → HasList (device_bytes d) 4 2 (length d.name + 1) 6 2 (d.name ++ 0 ∷ [])
  pub oem_data : (d : Device) → length (device_bytes d) < 2 ^ 16
      → HasList (device_bytes d) 8 2 (length d.oem_data) 10 2 d.oem_data

-- The bytes of a node of IORT contain the number and the offset of each of its lists, and have them there. The services of an ITS
-- group have no field for their offset, which is 20.
pub record ListsAreRead : Type 0 where
  pub services : (g : ItsGroup) → g.services.count < 2 ^ 32
      → (field_at 16 4 (its_group_bytes g) ≡ g.services.count) × StandIn (its_group_bytes g) 20 g.services.bytes
  pub names : (c : NamedComponent) → StandIn (component_bytes c) 29 (string_bytes c.name ++ 0 ∷ [])
  pub component_mappings : (c : NamedComponent) → length (component_bytes c) < 2 ^ 16 → c.mappings.count < 2 ^ 32
      → HasList (component_bytes c) 8 4 c.mappings.count 12 4 c.mappings.bytes
  pub root_complex_mappings : (c : RootComplex) → c.mappings.count < 2 ^ 32
      → HasList (root_complex_bytes c) 8 4 c.mappings.count 12 4 c.mappings.bytes
  pub earlier_root_complex_mappings : (c : EarlierRootComplex) → c.root_complex.mappings.count < 2 ^ 32
      → HasList (earlier_root_complex_bytes c) 8 4 c.root_complex.mappings.count 12 4 c.root_complex.mappings.bytes
  pub contexts : (s : Smmu) → length (smmu_bytes s) < 2 ^ 16 → s.contexts.count < 2 ^ 32
      → HasList (smmu_bytes s) 44 4 s.contexts.count 48 4 s.contexts.bytes
  pub monitors : (s : Smmu) → length (smmu_bytes s) < 2 ^ 16 → s.monitors.count < 2 ^ 32
      → HasList (smmu_bytes s) 52 4 s.monitors.count 56 4 s.monitors.bytes
  pub smmu_mappings : (s : Smmu) → length (smmu_bytes s) < 2 ^ 16 → s.mappings.count < 2 ^ 32
      → HasList (smmu_bytes s) 8 4 s.mappings.count 12 4 s.mappings.bytes
  pub smmu_v3_mappings : (s : SmmuV3) → s.mappings.count < 2 ^ 32
      → HasList (smmu_v3_bytes s) 8 4 s.mappings.count 12 4 s.mappings.bytes
  pub pmcg_mappings : (p : Pmcg) → p.mappings.count < 2 ^ 32 → HasList (pmcg_bytes p) 8 4 p.mappings.count 12 4 p.mappings.bytes
  pub ranges : (m : ReservedMemory) → length (reserved_memory_bytes m) < 2 ^ 16 → m.ranges.count < 2 ^ 32
      → HasList (reserved_memory_bytes m) 20 4 m.ranges.count 24 4 m.ranges.bytes
  pub memory_mappings : (m : ReservedMemory) → length (reserved_memory_bytes m) < 2 ^ 16 → m.mappings.count < 2 ^ 32
      → HasList (reserved_memory_bytes m) 8 4 m.mappings.count 12 4 m.mappings.bytes
