-- The Virtual I/O Translation Table (ACPI 6.5, 5.2.32).
use Rattle.std.specs.Prelude.{◌≡◌, ℕ, ◌^◌, ◌<◌, List, [], ◌∷◌, ◌++◌, codes}
use Rattle.acpi_base.specs.Bytes.{le, field_at, zeros}
use Rattle.acpi_base.specs.Fields.{NamedField, byte, word, dword, qword, hex, preset, reference, flags, reserved, fields_joined}
use Rattle.acpi_base.specs.Pci.{bdf_bits}
use Rattle.acpi_base.specs.declared.oem.Oem.{Oem}
use Rattle.acpi_base.specs.Object.{whole}
use Rattle.acpi_core.specs.Calls.{NodeStands}
use Rattle.acpi_core.specs.Listing.{Listing, field_limit}
use Rattle.acpi_core.specs.Offset.{StandIn}
use Rattle.acpi_nodes.specs.declared.pci.PciDevice.{PciDevice}
use Rattle.acpi_nodes.specs.declared.viot.PciRange.{PciRange}
use Rattle.acpi_nodes.specs.declared.viot.MmioEndpoint.{MmioEndpoint}
use Rattle.acpi_nodes.specs.declared.viot.VirtIoPciIommu.{VirtIoPciIommu}
use Rattle.acpi_nodes.specs.declared.viot.VirtIoMmioIommu.{VirtIoMmioIommu}

-- A table of a revision without nodes. At offset 36: Node Count, of two bytes. References to nodes have two bytes, so the length
-- is below 65,536.
abbrev pub viot_of : ℕ → Oem → Listing
viot_of revision oem = record {
  signature = codes "VIOT";
  revision = revision;
  oem = oem;
  before = [];
  count_width = 2;
  after = le 2 48 ++ zeros 8;  -- 38: Node Offset; 40: reserved
  limit = field_limit 2;
  structures = [];
}

-- that of the revision of `new`
abbrev pub viot : Oem → Listing
viot oem = viot_of 1 oem

-- ---- PCI Range Node Structure

abbrev pub pci_range : PciDevice → PciDevice → ℕ → PciRange
pci_range first last output = record { first = first; last = last; output = output }

abbrev pub pci_range_fields : PciRange → List NamedField
pci_range_fields r =
    preset byte "Type" 1  -- 0
    ∷ reserved 1  -- 1
    ∷ preset word "Length" 24  -- 2
    ∷ hex dword "Endpoint Start" r.first.bdf  -- 4
    ∷ word "PCI Segment Start" r.first.segment  -- 8
    ∷ word "PCI Segment End" r.last.segment  -- 10
    ∷ flags bdf_bits word "PCI BDF Start" r.first.bdf  -- 12
    ∷ flags bdf_bits word "PCI BDF End" r.last.bdf  -- 14
    ∷ reference word "Output Node" r.output  -- 16
    ∷ reserved 6  -- 18
    ∷ []

abbrev pub pci_range_bytes : PciRange → List ℕ
pci_range_bytes r = fields_joined (pci_range_fields r)

-- ---- Single MMIO Endpoint Node Structure

abbrev pub mmio_endpoint : ℕ → ℕ → ℕ → MmioEndpoint
mmio_endpoint endpoint base output = record { endpoint = endpoint; base = base; output = output }

abbrev pub mmio_endpoint_fields : MmioEndpoint → List NamedField
mmio_endpoint_fields e =
    preset byte "Type" 2  -- 0
    ∷ reserved 1  -- 1
    ∷ preset word "Length" 24  -- 2
    ∷ hex dword "Endpoint ID" e.endpoint  -- 4
    ∷ hex qword "Base Address" e.base  -- 8
    ∷ reference word "Output Node" e.output  -- 16
    ∷ reserved 6  -- 18
    ∷ []

abbrev pub mmio_endpoint_bytes : MmioEndpoint → List ℕ
mmio_endpoint_bytes e = fields_joined (mmio_endpoint_fields e)

-- ---- virtio-iommu based on virtio-pci Node Structure

abbrev pub virtio_pci_iommu : PciDevice → VirtIoPciIommu
virtio_pci_iommu device = record { device = device }

abbrev pub virtio_pci_iommu_fields : VirtIoPciIommu → List NamedField
virtio_pci_iommu_fields i =
    preset byte "Type" 3  -- 0
    ∷ reserved 1  -- 1
    ∷ preset word "Length" 16  -- 2
    ∷ word "PCI Segment" i.device.segment  -- 4
    ∷ flags bdf_bits word "PCI BDF Number" i.device.bdf  -- 6
    ∷ reserved 8  -- 8
    ∷ []

abbrev pub virtio_pci_iommu_bytes : VirtIoPciIommu → List ℕ
virtio_pci_iommu_bytes i = fields_joined (virtio_pci_iommu_fields i)

-- ---- virtio-iommu based on virtio-mmio Node Structure

abbrev pub virtio_mmio_iommu : ℕ → VirtIoMmioIommu
virtio_mmio_iommu base = record { base = base }

abbrev pub virtio_mmio_iommu_fields : VirtIoMmioIommu → List NamedField
virtio_mmio_iommu_fields i =
    preset byte "Type" 4  -- 0
    ∷ reserved 1  -- 1
    ∷ preset word "Length" 16  -- 2
    ∷ reserved 4  -- 4
    ∷ hex qword "Base Address" i.base  -- 8
    ∷ []

abbrev pub virtio_mmio_iommu_bytes : VirtIoMmioIommu → List ℕ
virtio_mmio_iommu_bytes i = fields_joined (virtio_mmio_iommu_fields i)

-- Each node begins with its type, for all values of its fields.
pub record NodesTellKinds : Type 0 where
  pub pci_ranges : (r : PciRange) → StandIn (pci_range_bytes r) 0 (1 ∷ [])
  pub mmio_endpoints : (e : MmioEndpoint) → StandIn (mmio_endpoint_bytes e) 0 (2 ∷ [])
  pub virtio_pci_iommus : (i : VirtIoPciIommu) → StandIn (virtio_pci_iommu_bytes i) 0 (3 ∷ [])
  pub virtio_mmio_iommus : (i : VirtIoMmioIommu) → StandIn (virtio_mmio_iommu_bytes i) 0 (4 ∷ [])

-- At the offset that an adder returned, the bytes of a table have the node, and so its type. This holds after any later calls.
pub record NodesStand (t : Listing) : Type 0 where
  pub virtio_pci_iommus : (i : VirtIoPciIommu) → NodeStands t (whole (virtio_pci_iommu_bytes i)) (3 ∷ [])
  pub virtio_mmio_iommus : (i : VirtIoMmioIommu) → NodeStands t (whole (virtio_mmio_iommu_bytes i)) (4 ∷ [])

-- The bytes of a node contain each of its references to other nodes.
pub record ReferencesAreRead : Type 0 where
  pub pci_ranges : (r : PciRange) → r.output < 2 ^ 16 → field_at 16 2 (pci_range_bytes r) ≡ r.output
  pub mmio_endpoints : (e : MmioEndpoint) → e.output < 2 ^ 16 → field_at 16 2 (mmio_endpoint_bytes e) ≡ e.output
