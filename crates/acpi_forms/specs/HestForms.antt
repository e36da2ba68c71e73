-- The forms of HEST and RQSC.
use Rattle.std.specs.Prelude.{ℕ, List, [], ◌∷◌, ◌++◌, take, drop}
use Rattle.acpi_base.specs.Fields.{NamedField, dword}
use Rattle.acpi_base.specs.Walk.{hest_walk, rqsc_walk}
use Rattle.acpi_hest.specs.Aer.{aer_head_fields, root_port_fields, device_fields, bridge_fields}
use Rattle.acpi_hest.specs.Generic.{generic_head_fields, unacknowledged_fields, acknowledged_fields}
use Rattle.acpi_hest.specs.Notification.{notification_fields}
use Rattle.acpi_hest.specs.Resource.{resource_head_fields, cache_fields, memory_fields, acpi_fields, pci_fields}
use Rattle.acpi_hest.specs.Rqsc.{Controller, controller_head_fields, controller_number}
use Rattle.acpi_hest.specs.declared.hest.aer.Aer.{Aer}
use Rattle.acpi_hest.specs.declared.hest.aer.AerBridge.{AerBridge}
use Rattle.acpi_hest.specs.declared.hest.aer.AerDevice.{AerDevice}
use Rattle.acpi_hest.specs.declared.hest.aer.AerRootPort.{AerRootPort}
use Rattle.acpi_hest.specs.declared.hest.generic.Acknowledged.{Acknowledged}
use Rattle.acpi_hest.specs.declared.hest.generic.Generic.{Generic}
use Rattle.acpi_hest.specs.declared.hest.generic.Unacknowledged.{Unacknowledged}
use Rattle.acpi_hest.specs.declared.rqsc.ControllerType.{ControllerType}
use Rattle.acpi_hest.specs.declared.rqsc.ControllerType.TheVariants.{Capacity, Bandwidth}
use Rattle.acpi_hest.specs.declared.rqsc.resource.CacheResource.{CacheResource}
use Rattle.acpi_hest.specs.declared.rqsc.resource.MemoryAffinityStructureResource.{MemoryAffinityStructureResource}
use Rattle.acpi_hest.specs.declared.rqsc.resource.ACPIDeviceResource.{ACPIDeviceResource}
use Rattle.acpi_hest.specs.declared.rqsc.resource.PCIDeviceResource.{PCIDeviceResource}
use Rattle.acpi_hest.specs.declared.rqsc.resource.ResourceStructure.{ResourceStructure}
use Rattle.acpi_forms.specs.Rows.{TableHas, StructureHas, InnerHasAt}
use Rattle.acpi_text.specs.declared.form.TableForm.{TableForm}

-- ---- HEST (ACPI 6.5, 18.3.2)

-- 36: the number of sources
abbrev pub source_count : ℕ → List NamedField
source_count n = dword "Error Source Count" n ∷ []

-- a generic source of a type, with the fields of its notification in their place
abbrev pub generic_fields : {T : Type 0} {N : ℕ} → ℕ → Generic T N → List NamedField
generic_fields kind s =
    take 9 (generic_head_fields kind s) ++ notification_fields s.notification ++ drop 10 (generic_head_fields kind s)

pub record IsHest (form : TableForm) : Type 0 where
  pub table : TableHas source_count form
  pub root_port : StructureHas hest_walk {T = Aer AerRootPort 4} (λ s. aer_head_fields 6 s ++ root_port_fields s.tail) form
  pub device : StructureHas hest_walk {T = Aer AerDevice 0} (λ s. aer_head_fields 7 s ++ device_fields s.tail) form
  pub bridge : StructureHas hest_walk {T = Aer AerBridge 12} (λ s. aer_head_fields 8 s ++ bridge_fields s.tail) form
  pub generic : StructureHas hest_walk {T = Generic Unacknowledged 0}
      (λ s. generic_fields 9 s ++ unacknowledged_fields s.tail) form
  pub generic_2 : StructureHas hest_walk {T = Generic Acknowledged 28}
      (λ s. generic_fields 10 s ++ acknowledged_fields s.tail) form

-- ---- RQSC (this project's profile)

-- 36: the number of controllers
abbrev pub controller_count : ℕ → List NamedField
controller_count n = dword "Number of QoS Controllers" n ∷ []

abbrev pub controller_fields : ControllerType → Controller → List NamedField
controller_fields kind q = controller_head_fields (record q { kind = controller_number kind })

-- a resource's fields, and those of its id
abbrev pub resource_fields : {T : Type 0} → (T → List NamedField) → ResourceStructure × T → List NamedField
resource_fields id_fields r = resource_head_fields r.0 ++ id_fields r.1

-- the resources of a controller of a type
pub record HasResources (kind : ℕ) (form : TableForm) : Type 0 where
  pub cache : InnerHasAt 0 kind {T = ResourceStructure × CacheResource} (resource_fields cache_fields) form
  pub memory : InnerHasAt 1 kind {T = ResourceStructure × MemoryAffinityStructureResource} (resource_fields memory_fields) form
  pub acpi : InnerHasAt 2 kind {T = ResourceStructure × ACPIDeviceResource} (resource_fields acpi_fields) form
  pub pci : InnerHasAt 3 kind {T = ResourceStructure × PCIDeviceResource} (resource_fields pci_fields) form

pub record IsRqsc (form : TableForm) : Type 0 where
  pub table : TableHas controller_count form
  pub capacity : StructureHas rqsc_walk (controller_fields Capacity) form
  pub bandwidth : StructureHas rqsc_walk (controller_fields Bandwidth) form
  pub capacity_resources : HasResources (controller_number Capacity) form
  pub bandwidth_resources : HasResources (controller_number Bandwidth) form
