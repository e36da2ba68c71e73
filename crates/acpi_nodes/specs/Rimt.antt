-- The RISC-V I/O Mapping Table (this project's profile).
use Rattle.std.specs.Prelude.{◌≡◌, ℕ, ◌+◌, ◌*◌, ◌^◌, ◌<◌, Bool, if◌then◌else◌, List, [], ◌∷◌, ◌++◌, length, codes}
use Rattle.std.specs.Prelude.{String, string_bytes, Vec, unwrap_or, is_some, Option, Some, None}
use Rattle.std.specs.declared.alloc.Global.{Global}
use Rattle.acpi_base.specs.Bytes.{le, field_at, zeros}
use Rattle.acpi_base.specs.Fields.{NamedField, byte, word, dword, qword, hex, preset, reference, flags, reserved, fields_joined}
use Rattle.acpi_base.specs.Look.{Part, flag, choice, means}
use Rattle.acpi_base.specs.Pci.{bdf_bits}
use Rattle.acpi_base.specs.declared.oem.Oem.{Oem}
use Rattle.acpi_core.specs.Calls.{NodeStands}
use Rattle.acpi_core.specs.Listing.{Listing, length_limit}
use Rattle.acpi_core.specs.Offset.{StandIn}
use Rattle.acpi_core.specs.Structure.{structure_of}
use Rattle.acpi_nodes.specs.declared.pci.PciDevice.{PciDevice}
use Rattle.acpi_nodes.specs.declared.rimt.InterruptWire.{InterruptWire}
use Rattle.acpi_nodes.specs.declared.rimt.Iommu.{Iommu}
use Rattle.acpi_nodes.specs.declared.rimt.IdMapping.{IdMapping}
use Rattle.acpi_nodes.specs.declared.rimt.PcieRootComplex.{PcieRootComplex}
use Rattle.acpi_nodes.specs.declared.rimt.Platform.{Platform}
use Rattle.acpi_nodes.specs.Entries.{entries_of, records_joined}

-- A table without devices. At offset 36: the number of devices, of four bytes.
abbrev pub rimt : Oem → Listing
rimt oem = record {
  signature = codes "RIMT";
  revision = 1;
  oem = oem;
  before = [];
  count_width = 4;
  after = le 4 48 ++ zeros 4;  -- 40: offset of the first device; 44: reserved
  limit = length_limit;
  structures = [];
}

-- a bit of a field of flags, or 0
abbrev pub bit : Bool → ℕ → ℕ
bit set value = if set then value else 0

-- ---- interrupt wires

abbrev pub interrupt_wire : ℕ → Bool → Bool → ℕ → InterruptWire
interrupt_wire number level_trig polarity_high aplic_id = record {
  number = number;
  level_trig = level_trig;
  polarity_high = polarity_high;
  aplic_id = aplic_id;
}

-- Flags of an interrupt wire
abbrev pub wire_bits : List Part
wire_bits =
    choice 0x1 (means 0x0 "Edge Triggered" ∷ means 0x1 "Level Triggered" ∷ [])
    ∷ choice 0x2 (means 0x0 "Active Low" ∷ means 0x2 "Active High" ∷ [])
    ∷ []

abbrev pub wire_fields : InterruptWire → List NamedField
wire_fields w =
    dword "Interrupt Number" w.number  -- 0
    ∷ flags wire_bits word "Flags" (bit w.level_trig 1 + bit w.polarity_high 2)  -- 4
    ∷ hex word "APLIC ID" w.aplic_id  -- 6
    ∷ []

abbrev pub wire_bytes : InterruptWire → List ℕ
wire_bytes w = fields_joined (wire_fields w)

-- ---- IOMMUs

abbrev pub iommu : ℕ → Option ℕ → Option PciDevice → Option ℕ → Option (Vec InterruptWire Global) → Iommu
iommu id base device domain wires = record { id = id; base = base; device = device; domain = domain; wires = wires }

-- an address of zeros if none is given
abbrev pub segment_of : Option PciDevice → ℕ
segment_of None = 0
segment_of (Some device) = device.segment

abbrev pub bdf_of : Option PciDevice → ℕ
bdf_of None = 0
bdf_of (Some device) = device.bdf

-- Flags of an IOMMU
abbrev pub iommu_bits : List Part
iommu_bits =
    flag 0x1 "PCI Device"
    ∷ flag 0x2 "Proximity Domain Valid"
    ∷ []

abbrev pub iommu_head_fields : Iommu → List NamedField
iommu_head_fields i =
    preset byte "Type" 0  -- 0
    ∷ preset byte "Revision" 1  -- 1
    ∷ word "Length" (32 + 8 * length (entries_of i.wires))  -- 2
    ∷ hex word "ID" i.id  -- 4
    ∷ preset word "Model" 0  -- 6
    ∷ hex qword "Base Address" (unwrap_or i.base 0)  -- 8
    ∷ flags iommu_bits dword "Flags" (bit (is_some i.device) 1 + bit (is_some i.domain) 2)  -- 16
    ∷ word "PCI Segment" (segment_of i.device)  -- 20
    ∷ flags bdf_bits word "PCI BDF" (bdf_of i.device)  -- 22
    ∷ dword "Proximity Domain" (unwrap_or i.domain 0)  -- 24
    ∷ word "Number of Interrupt Wires" (length (entries_of i.wires))  -- 28
    ∷ preset word "Offset of Interrupt Wires" 32  -- 30
    ∷ []

abbrev pub iommu_head : Iommu → List ℕ
iommu_head i = fields_joined (iommu_head_fields i)

abbrev pub iommu_bytes : Iommu → List ℕ
iommu_bytes i = iommu_head i ++ records_joined wire_fields (entries_of i.wires)  -- 32: interrupt wires

-- ---- mappings of ids

abbrev pub id_mapping : ℕ → ℕ → ℕ → ℕ → Bool → Bool → Bool → IdMapping
id_mapping src_id dst_id num_ids iommu ats pri rciep = record {
  src_id = src_id;
  dst_id = dst_id;
  num_ids = num_ids;
  iommu = iommu;
  ats = ats;
  pri = pri;
  rciep = rciep;
}

-- Flags of a mapping
abbrev pub mapping_bits : List Part
mapping_bits =
    flag 0x1 "ATS Required"
    ∷ flag 0x2 "PRI Required"
    ∷ flag 0x4 "RCiEP"
    ∷ []

abbrev pub mapping_fields : IdMapping → List NamedField
mapping_fields m =
    hex dword "Source ID Base" m.src_id  -- 0
    ∷ hex dword "Destination ID Base" m.dst_id  -- 4
    ∷ dword "Number of IDs" m.num_ids  -- 8
    ∷ reference dword "Destination IOMMU Offset" m.iommu  -- 12
    ∷ flags mapping_bits dword "Flags" (bit m.ats 1 + bit m.pri 2 + bit m.rciep 4)  -- 16
    ∷ []

abbrev pub mapping_bytes : IdMapping → List ℕ
mapping_bytes m = fields_joined (mapping_fields m)

-- ---- PCI Express root complexes

abbrev pub root_complex : ℕ → ℕ → Bool → Bool → Option (Vec IdMapping Global) → PcieRootComplex
root_complex id segment ats pri mappings = record { id = id; segment = segment; ats = ats; pri = pri; mappings = mappings }

-- Flags of a root complex
abbrev pub complex_bits : List Part
complex_bits =
    flag 0x1 "ATS Supported"
    ∷ flag 0x2 "PRI Supported"
    ∷ []

abbrev pub root_complex_head_fields : PcieRootComplex → List NamedField
root_complex_head_fields c =
    preset byte "Type" 1  -- 0
    ∷ preset byte "Revision" 1  -- 1
    ∷ word "Length" (16 + 20 * length (entries_of c.mappings))  -- 2
    ∷ hex word "ID" c.id  -- 4
    ∷ word "PCI Segment" c.segment  -- 6
    ∷ flags complex_bits dword "Flags" (bit c.ats 1 + bit c.pri 2)  -- 8
    ∷ preset word "Offset of Mappings" 16  -- 12
    ∷ word "Number of Mappings" (length (entries_of c.mappings))  -- 14
    ∷ []

abbrev pub root_complex_head : PcieRootComplex → List ℕ
root_complex_head c = fields_joined (root_complex_head_fields c)

abbrev pub root_complex_bytes : PcieRootComplex → List ℕ
root_complex_bytes c = root_complex_head c ++ records_joined mapping_fields (entries_of c.mappings)  -- 16: mappings

-- ---- platform devices

abbrev pub platform : ℕ → String Global → Option (Vec IdMapping Global) → Platform
platform id name mappings = record { id = id; name = name; mappings = mappings }

-- the offset of the mappings: after the name and its zero
abbrev pub mappings_at : Platform → ℕ
mappings_at p = 13 + length (string_bytes p.name)

abbrev pub platform_head_fields : Platform → List NamedField
platform_head_fields p =
    preset byte "Type" 2  -- 0
    ∷ preset byte "Revision" 1  -- 1
    ∷ word "Length" (mappings_at p + 20 * length (entries_of p.mappings))  -- 2
    ∷ hex word "ID" p.id  -- 4
    ∷ reserved 2  -- 6
    ∷ word "Offset of Mappings" (mappings_at p)  -- 8
    ∷ word "Number of Mappings" (length (entries_of p.mappings))  -- 10
    ∷ []

abbrev pub platform_head : Platform → List ℕ
platform_head p = fields_joined (platform_head_fields p)

-- 12: the name in the namespace, a zero, and then the mappings
abbrev pub platform_bytes : Platform → List ℕ
platform_bytes p = platform_head p ++ (string_bytes p.name ++ (0 ∷ records_joined mapping_fields (entries_of p.mappings)))

-- Each device begins with its type, for all values of its fields.
pub record DevicesTellKinds : Type 0 where
  pub iommus : (i : Iommu) → StandIn (iommu_bytes i) 0 (0 ∷ [])
  pub root_complexes : (c : PcieRootComplex) → StandIn (root_complex_bytes c) 0 (1 ∷ [])
  pub platforms : (p : Platform) → StandIn (platform_bytes p) 0 (2 ∷ [])

-- At the offset that `add_iommu` returned, the bytes of a table have the device, and so its type. This holds after any later
-- calls.
pub record DevicesStand (t : Listing) : Type 0 where
  pub iommus : (i : Iommu) → NodeStands t (structure_of (iommu_bytes i)) (0 ∷ [])

-- The bytes of a device contain each of its references to an IOMMU.
pub record ReferencesAreRead : Type 0 where
  pub mappings : (m : IdMapping) → m.iommu < 2 ^ 32 → field_at 12 4 (mapping_bytes m) ≡ m.iommu
