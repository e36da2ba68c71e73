-- Laws about the nodes of IORT.
use Rattle.std.specs.Prelude.{◌≡◌, ◌^◌, ◌<◌, [], ◌∷◌}
use Rattle.acpi_base.specs.Bytes.{field_at}
use Rattle.acpi_base.specs.Object.{whole}
use Rattle.acpi_core.specs.Calls.{NodeStands}
use Rattle.acpi_core.specs.Listing.{Listing}
use Rattle.acpi_core.specs.Offset.{StandIn}
use Rattle.acpi_core.specs.Structure.{structure_of}
use Rattle.acpi_arm.specs.Iort.{mapping_bytes}
use Rattle.acpi_arm.specs.IortNodes.{its_group_bytes, component_bytes, root_complex_bytes, pmcg_bytes, reserved_memory_bytes}
use Rattle.acpi_arm.specs.IortNodes.{earlier_root_complex_bytes}
use Rattle.acpi_arm.specs.IortSmmus.{smmu_bytes, smmu_v3_bytes}
use Rattle.acpi_arm.specs.declared.iort.components.NamedComponent.{NamedComponent}
use Rattle.acpi_arm.specs.declared.iort.components.RootComplex.{RootComplex}
use Rattle.acpi_arm.specs.declared.iort.components.EarlierRootComplex.{EarlierRootComplex}
use Rattle.acpi_arm.specs.declared.iort.its.ItsGroup.{ItsGroup}
use Rattle.acpi_arm.specs.declared.iort.mapping.IdMapping.{IdMapping}
use Rattle.acpi_arm.specs.declared.iort.monitor.Pmcg.{Pmcg}
use Rattle.acpi_arm.specs.declared.iort.regions.ReservedMemory.{ReservedMemory}
use Rattle.acpi_arm.specs.declared.iort.smmus.Smmu.{Smmu}
use Rattle.acpi_arm.specs.declared.iort.smmus.SmmuV3.{SmmuV3}

-- Each node begins with its type, for all values of its fields.
pub record NodesTellKinds : Type 0 where
  pub its_groups : (g : ItsGroup) → StandIn (its_group_bytes g) 0 (0 ∷ [])
  pub named_components : (c : NamedComponent) → StandIn (component_bytes c) 0 (1 ∷ [])
  pub root_complexes : (c : RootComplex) → StandIn (root_complex_bytes c) 0 (2 ∷ [])
  pub earlier_root_complexes : (c : EarlierRootComplex) → StandIn (earlier_root_complex_bytes c) 0 (2 ∷ [])
  pub smmus : (s : Smmu) → StandIn (smmu_bytes s) 0 (3 ∷ [])
  pub smmus_v3 : (s : SmmuV3) → StandIn (smmu_v3_bytes s) 0 (4 ∷ [])
  pub monitors : (p : Pmcg) → StandIn (pmcg_bytes p) 0 (5 ∷ [])
  pub reserved : (m : ReservedMemory) → StandIn (reserved_memory_bytes m) 0 (6 ∷ [])

-- At the offset that an adder returned for a node, the bytes of a table have the node, and so its type. This holds after any
-- later calls.
pub record NodesStand (t : Listing) : Type 0 where
  pub its_groups : (g : ItsGroup) → NodeStands t (whole (its_group_bytes g)) (0 ∷ [])
  pub named_components : (c : NamedComponent) → NodeStands t (structure_of (component_bytes c)) (1 ∷ [])
  pub root_complexes : (c : RootComplex) → NodeStands t (whole (root_complex_bytes c)) (2 ∷ [])
  pub earlier_root_complexes : (c : EarlierRootComplex) → NodeStands t (whole (earlier_root_complex_bytes c)) (2 ∷ [])
  pub smmus : (s : Smmu) → NodeStands t (structure_of (smmu_bytes s)) (3 ∷ [])
  pub smmus_v3 : (s : SmmuV3) → NodeStands t (whole (smmu_v3_bytes s)) (4 ∷ [])

-- The bytes of a node contain its identifier.
pub record IdentifiersAreRead : Type 0 where
  pub its_groups : (g : ItsGroup) → g.identifier < 2 ^ 32 → field_at 4 4 (its_group_bytes g) ≡ g.identifier
  pub named_components : (c : NamedComponent) → c.identifier < 2 ^ 32 → field_at 4 4 (component_bytes c) ≡ c.identifier
  pub root_complexes : (c : RootComplex) → c.identifier < 2 ^ 32 → field_at 4 4 (root_complex_bytes c) ≡ c.identifier
  pub earlier_root_complexes : (c : EarlierRootComplex) → c.root_complex.identifier < 2 ^ 32
      → field_at 4 4 (earlier_root_complex_bytes c) ≡ c.root_complex.identifier
  pub smmus : (s : Smmu) → s.identifier < 2 ^ 32 → field_at 4 4 (smmu_bytes s) ≡ s.identifier
  pub smmus_v3 : (s : SmmuV3) → s.identifier < 2 ^ 32 → field_at 4 4 (smmu_v3_bytes s) ≡ s.identifier
  pub monitors : (p : Pmcg) → p.identifier < 2 ^ 32 → field_at 4 4 (pmcg_bytes p) ≡ p.identifier
  pub reserved : (m : ReservedMemory) → m.identifier < 2 ^ 32 → field_at 4 4 (reserved_memory_bytes m) ≡ m.identifier

-- The bytes of a mapping contain its reference to the node to which ids go, and those of a counter group the node of its events.
pub record ReferencesAreRead : Type 0 where
  pub mappings : (m : IdMapping) → m.output < 2 ^ 32 → field_at 12 4 (mapping_bytes m) ≡ m.output
  pub monitors : (p : Pmcg) → p.node < 2 ^ 32 → field_at 28 4 (pmcg_bytes p) ≡ p.node
