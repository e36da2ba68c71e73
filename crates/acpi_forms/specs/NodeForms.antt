-- The forms of tables whose nodes name each other.
use Rattle.std.specs.Prelude.{ℕ, List, [], ◌∷◌, ◌++◌}
use Rattle.acpi_base.specs.Fields.{NamedField, word, dword, reserved}
use Rattle.acpi_base.specs.Walk.{pptt_walk, rhct_walk, viot_walk, rimt_walk}
use Rattle.acpi_nodes.specs.Hart.{hart_info_head_fields}
use Rattle.acpi_nodes.specs.Pptt.{processor_head_fields, cache_fields}
use Rattle.acpi_nodes.specs.Rhct.{rhct_fields, isa_string_head_fields, cmo_fields, mmu_fields}
use Rattle.acpi_nodes.specs.Rimt.{wire_fields, iommu_head_fields, mapping_fields, root_complex_head_fields, platform_head_fields}
use Rattle.acpi_nodes.specs.Viot.{pci_range_fields, mmio_endpoint_fields, virtio_pci_iommu_fields, virtio_mmio_iommu_fields}
use Rattle.acpi_forms.specs.Rows.{TableHas, StructureHas, EntryHas}
use Rattle.acpi_text.specs.declared.form.TableForm.{TableForm}

-- ---- PPTT (ACPI 6.5, 5.2.30)

pub record IsPptt (form : TableForm) : Type 0 where
  pub table : TableHas {T = Unit {0}} (λ none. []) form
  pub processor : StructureHas pptt_walk processor_head_fields form
  pub cache : StructureHas pptt_walk cache_fields form

-- ---- RHCT (this project's profile)

-- 48: the number of nodes; 52: the offset of the first
abbrev pub rhct_table_fields : ℕ × ℕ × ℕ → List NamedField
rhct_table_fields t =
    rhct_fields t.0
    ++ (dword "Number of RHCT Nodes" t.1
    ∷ dword "Offset of RHCT Nodes" t.2
    ∷ [])

pub record IsRhct (form : TableForm) : Type 0 where
  pub table : TableHas rhct_table_fields form
  pub isa_string : StructureHas rhct_walk isa_string_head_fields form
  pub cmo : StructureHas rhct_walk cmo_fields form
  pub mmu : StructureHas rhct_walk mmu_fields form
  pub hart_info : StructureHas rhct_walk hart_info_head_fields form

-- ---- VIOT (ACPI 6.5, 5.2.32)

-- 36: the number of nodes; 38: the offset of the first
abbrev pub viot_fields : ℕ × ℕ → List NamedField
viot_fields t =
    word "Node Count" t.0
    ∷ word "Node Offset" t.1
    ∷ reserved 8
    ∷ []

pub record IsViot (form : TableForm) : Type 0 where
  pub table : TableHas viot_fields form
  pub pci_range : StructureHas viot_walk pci_range_fields form
  pub mmio_endpoint : StructureHas viot_walk mmio_endpoint_fields form
  pub pci_iommu : StructureHas viot_walk virtio_pci_iommu_fields form
  pub mmio_iommu : StructureHas viot_walk virtio_mmio_iommu_fields form

-- ---- RIMT (this project's profile)

-- 36: the number of devices; 40: the offset of the first
abbrev pub rimt_fields : ℕ × ℕ → List NamedField
rimt_fields t =
    dword "Number of RIMT Nodes" t.0
    ∷ dword "Offset of RIMT Nodes" t.1
    ∷ reserved 4
    ∷ []

pub record IsRimt (form : TableForm) : Type 0 where
  pub table : TableHas rimt_fields form
  pub iommu : StructureHas rimt_walk iommu_head_fields form
  pub wire : EntryHas 0 "Interrupt Wire" wire_fields form
  pub root_complex : StructureHas rimt_walk root_complex_head_fields form
  pub root_complex_mapping : EntryHas 1 "ID Mapping" mapping_fields form
  pub platform : StructureHas rimt_walk platform_head_fields form
  pub platform_mapping : EntryHas 2 "ID Mapping" mapping_fields form
