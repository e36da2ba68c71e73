-- Resources of RQSC (this project's profile).
use Rattle.std.specs.Prelude.{◌≡◌, ℕ, ◌+◌, List, [], ◌∷◌, ◌++◌, length}
use Rattle.acpi_base.specs.Fields.{NamedField, byte, word, dword, qword, hex, flags, one_of, reserved, fields_joined}
use Rattle.acpi_base.specs.Look.{Part, part, means}
use Rattle.acpi_hest.specs.declared.rqsc.resource.ResourceType.{ResourceType}
use Rattle.acpi_hest.specs.declared.rqsc.resource.ResourceType.TheVariants as types
use Rattle.acpi_hest.specs.declared.rqsc.resource.CacheResource.{CacheResource}
use Rattle.acpi_hest.specs.declared.rqsc.resource.MemoryAffinityStructureResource.{MemoryAffinityStructureResource}
use Rattle.acpi_hest.specs.declared.rqsc.resource.ACPIDeviceResource.{ACPIDeviceResource}
use Rattle.acpi_hest.specs.declared.rqsc.resource.PCIDeviceResource.{PCIDeviceResource}
use Rattle.acpi_hest.specs.declared.rqsc.resource.ResourceID.{ResourceID}
use Rattle.acpi_hest.specs.declared.rqsc.resource.ResourceID.TheVariants as ids
use Rattle.acpi_hest.specs.declared.rqsc.resource.ResourceStructure.{ResourceStructure}

-- ---- payloads: Resource ID 1 and 2, and what is specific to the resource

abbrev pub cache_resource : ℕ → CacheResource
cache_resource cache_id = record { cache_id = cache_id }

abbrev pub cache_fields : CacheResource → List NamedField
cache_fields r =
    hex dword "Cache ID" r.cache_id  -- 0: that of PPTT
    ∷ reserved 8  -- 4
    ∷ []

abbrev pub cache_bytes : CacheResource → List ℕ
cache_bytes r = fields_joined (cache_fields r)

abbrev pub memory_resource : ℕ → ℕ → MemoryAffinityStructureResource
memory_resource domain bandwidth = record { proximity_domain = domain; raw_bandwidth_per_block = bandwidth }

abbrev pub memory_fields : MemoryAffinityStructureResource → List NamedField
memory_fields r =
    dword "Proximity Domain" r.proximity_domain  -- 0: that of SRAT
    ∷ reserved 8  -- 4
    ∷ qword "Raw Bandwidth per Block" r.raw_bandwidth_per_block  -- 12: bytes a second
    ∷ []

abbrev pub memory_bytes : MemoryAffinityStructureResource → List ℕ
memory_bytes r = fields_joined (memory_fields r)

abbrev pub acpi_resource : ℕ → ℕ → ACPIDeviceResource
acpi_resource hid uid = record { acpi_hardware_id = hid; acpi_unique_id = uid }

abbrev pub acpi_fields : ACPIDeviceResource → List NamedField
acpi_fields r =
    hex qword "ACPI Hardware ID" r.acpi_hardware_id  -- 0: _HID
    ∷ hex dword "ACPI Unique ID" r.acpi_unique_id  -- 8: _UID
    ∷ []

abbrev pub acpi_bytes : ACPIDeviceResource → List ℕ
acpi_bytes r = fields_joined (acpi_fields r)

abbrev pub pci_resource : ℕ → PCIDeviceResource
pci_resource bdf = record { bdf = bdf }

-- a segment in bits 31:16, a bus in bits 15:8, a device in bits 7:3, a function in bits 2:0
abbrev pub segment_and_bdf_bits : List Part
segment_and_bdf_bits =
    part 0xffff0000 0x00010000 "Segment"
    ∷ part 0x0000ff00 0x00000100 "Bus"
    ∷ part 0x000000f8 0x00000008 "Device"
    ∷ part 0x00000007 0x00000001 "Function"
    ∷ []

abbrev pub pci_fields : PCIDeviceResource → List NamedField
pci_fields r =
    flags segment_and_bdf_bits dword "Segment and BDF" r.bdf  -- 0: segment, bus, device and function
    ∷ reserved 8  -- 4
    ∷ []

abbrev pub pci_bytes : PCIDeviceResource → List ℕ
pci_bytes r = fields_joined (pci_fields r)

-- ---- ids

-- Resource ID Type
abbrev pub id_number : ResourceID → ℕ
id_number (ids.Cache r) = 0
id_number (ids.MemoryAffinityStructure r) = 1
id_number (ids.ACPIDevice r) = 2
id_number (ids.PCIDevice r) = 3
id_number (ids.VendorSpecific kind bytes) = kind

abbrev pub payload : ResourceID → List ℕ
payload (ids.Cache r) = cache_bytes r
payload (ids.MemoryAffinityStructure r) = memory_bytes r
payload (ids.ACPIDevice r) = acpi_bytes r
payload (ids.PCIDevice r) = pci_bytes r
payload (ids.VendorSpecific kind bytes) = bytes.items

-- the bytes of an id
abbrev pub id_bytes : ResourceID → List ℕ
id_bytes id = id_number id ∷ payload id

-- the same id; of a vendor's id the bytes are the same, in any memory
abbrev pub same_id : ResourceID → ResourceID → Type 0
same_id (ids.VendorSpecific kind bytes) (ids.VendorSpecific other others) = (kind ≡ other) × (bytes.items ≡ others.items)
same_id a b = a ≡ b

-- ---- resources

abbrev pub type_number : ResourceType → ℕ
type_number types.Cache = 0
type_number types.Memory = 1

abbrev pub resource : ResourceType → ℕ → ResourceID → ResourceStructure
resource kind flags id = record { kind = kind; flags = flags; id = id }

-- the words of Resource Type
abbrev pub resource_words : List (ℕ × List ℕ)
resource_words =
    means 0 "Cache"
    ∷ means 1 "Memory"
    ∷ []

-- the words of Resource ID Type
abbrev pub id_words : List (ℕ × List ℕ)
id_words =
    means 0 "Cache"
    ∷ means 1 "Memory Affinity Structure"
    ∷ means 2 "ACPI Device"
    ∷ means 3 "PCI Device"
    ∷ []

abbrev pub resource_head_fields : ResourceStructure → List NamedField
resource_head_fields r =
    one_of resource_words byte "Resource Type" (type_number r.kind)  -- 0
    ∷ reserved 1  -- 1
    ∷ word "Length" (8 + length (payload r.id))  -- 2
    ∷ hex word "Resource Flags" r.flags  -- 4
    ∷ reserved 1  -- 6
    ∷ one_of id_words byte "Resource ID Type" (id_number r.id)  -- 7
    ∷ []

abbrev pub resource_head : ResourceStructure → List ℕ
resource_head r = fields_joined (resource_head_fields r)

abbrev pub resource_bytes : ResourceStructure → List ℕ
resource_bytes r = resource_head r ++ payload r.id  -- 8: Resource ID 1

-- the same kind, flags and id
pub record SameResource (a b : ResourceStructure) : Type 0 where
  pub kind : a.kind ≡ b.kind
  pub flags : a.flags ≡ b.flags
  pub id : same_id a.id b.id
