-- The nodes of IORT but those of SMMUs (Arm DEN0049E.d).
use Rattle.std.specs.Prelude.{ℕ, ◌+◌, ◌-◌, ◌*◌, ◌%◌, List, [], ◌∷◌, ◌++◌, length, String, string_bytes, bit_or}
use Rattle.std.specs.declared.alloc.Global.{Global}
use Rattle.acpi_base.specs.Fields.{NamedField, byte, word, dword, qword, hex, preset}
use Rattle.acpi_base.specs.Fields.{reference, flags, one_of, reserved, fields_joined}
use Rattle.acpi_base.specs.Look.{Part, flag, choice, part, means}
use Rattle.acpi_base.specs.Bytes.{zeros}
use Rattle.acpi_core.specs.Entries.{no_entries}
use Rattle.acpi_arm.specs.Offsets.{offset_if}
use Rattle.acpi_arm.specs.declared.iort.components.NamedComponent.{NamedComponent}
use Rattle.acpi_arm.specs.declared.iort.components.RootComplex.{RootComplex}
use Rattle.acpi_arm.specs.declared.iort.components.EarlierRootComplex.{EarlierRootComplex}
use Rattle.acpi_arm.specs.declared.iort.its.ItsGroup.{ItsGroup}
use Rattle.acpi_arm.specs.declared.iort.monitor.Monitored.{Monitored}
use Rattle.acpi_arm.specs.declared.iort.monitor.Monitored.TheVariants as monitored
use Rattle.acpi_arm.specs.declared.iort.monitor.Pmcg.{Pmcg}
use Rattle.acpi_arm.specs.declared.iort.regions.AccessAttributes.{AccessAttributes}
use Rattle.acpi_arm.specs.declared.iort.regions.AccessAttributes.TheVariants as attributes
use Rattle.acpi_arm.specs.declared.iort.regions.MemoryRange.{MemoryRange}
use Rattle.acpi_arm.specs.declared.iort.regions.ReservedMemory.{ReservedMemory}
use Rattle.acpi_arm.specs.Iort.{memory_access, hint_bits, access_bits}

-- ---- ITS group

abbrev pub its_group : ItsGroup
its_group = record { identifier = 0; services = no_entries }

abbrev pub its_group_head_fields : ItsGroup → List NamedField
its_group_head_fields g =
    preset byte "Type" 0  -- 0
    ∷ word "Length" (20 + length g.services.bytes)  -- 1
    ∷ preset byte "Revision" 1  -- 3
    ∷ hex dword "Identifier" g.identifier  -- 4
    ∷ preset dword "Number of ID Mappings" 0  -- 8
    ∷ preset dword "Reference to ID Array" 0  -- 12
    ∷ dword "Number of ITSs" g.services.count  -- 16
    ∷ []

abbrev pub its_group_head : ItsGroup → List ℕ
its_group_head g = fields_joined (its_group_head_fields g)

abbrev pub its_group_bytes : ItsGroup → List ℕ
its_group_bytes g = its_group_head g ++ g.services.bytes  -- 20: GIC ITS Identifier Array

-- ---- named component

abbrev pub named_component : String Global → NamedComponent
named_component name = record {
  identifier = 0;
  flags = 0;
  substream_width = 0;
  access = memory_access;
  address_size_limit = 0;
  name = name;
  mappings = no_entries;
}

-- the number of zeros after a name of this many bytes: the zero that ends it, and those up to a multiple of 4
abbrev pub name_end : ℕ → ℕ
name_end n = 4 - (n + 1) % 4

-- where the name and these zeros end
abbrev pub component_start : NamedComponent → ℕ
component_start c = 29 + length (string_bytes c.name) + name_end (length (string_bytes c.name))

abbrev pub component_size : NamedComponent → ℕ
component_size c = component_start c + length c.mappings.bytes

-- Node Flags: Substream Width in bits 5:1
abbrev pub component_bits : List Part
component_bits =
    flag 0x01 "Stall Supported"
    ∷ part 0x3e 0x02 "Substream Width"
    ∷ []

abbrev pub component_flags : NamedComponent → ℕ
component_flags c = bit_or c.flags (2 * c.substream_width)

-- the words of Cache Coherent Attribute
abbrev pub coherent_words : List (ℕ × List ℕ)
coherent_words =
    means 0 "Not Coherent"
    ∷ means 1 "Fully Coherent"
    ∷ []

abbrev pub component_head_fields : NamedComponent → List NamedField
component_head_fields c =
    preset byte "Type" 1  -- 0
    ∷ word "Length" (component_size c)  -- 1
    ∷ preset byte "Revision" 4  -- 3
    ∷ hex dword "Identifier" c.identifier  -- 4
    ∷ dword "Number of ID Mappings" c.mappings.count  -- 8
    ∷ dword "Reference to ID Array" (offset_if c.mappings.count (component_start c))  -- 12
    ∷ flags component_bits dword "Node Flags" (component_flags c)  -- 16
    ∷ one_of coherent_words dword "Cache Coherent Attribute" c.access.cache_coherent  -- 20
    ∷ flags hint_bits byte "Allocation Hints" c.access.hints  -- 24
    ∷ reserved 2  -- 25
    ∷ flags access_bits byte "Memory Access Flags" c.access.flags  -- 27
    ∷ byte "Device Memory Address Size Limit" c.address_size_limit  -- 28
    ∷ []

abbrev pub component_head : NamedComponent → List ℕ
component_head c = fields_joined (component_head_fields c)

-- 29: Device Object Name, zeros, and then the mappings
abbrev pub component_bytes : NamedComponent → List ℕ
component_bytes c =
    component_head c ++ (string_bytes c.name ++ (zeros (name_end (length (string_bytes c.name))) ++ c.mappings.bytes))

-- ---- root complex

abbrev pub root_complex : ℕ → RootComplex
root_complex segment = record {
  identifier = 0;
  access = memory_access;
  ats_attribute = 0;
  segment = segment;
  address_size_limit = 0;
  max_pasid_width = 0;
  flags = 0;
  mappings = no_entries;
}

-- ATS Attribute
abbrev pub ats_bits : List Part
ats_bits =
    flag 0x1 "ATS Supported"
    ∷ flag 0x2 "PRI Supported"
    ∷ flag 0x4 "PASID Forwarding Supported"
    ∷ []

-- PASID Capabilities: Max PASID Width in bits 4:0
abbrev pub pasid_bits : List Part
pasid_bits =
    part 0x1f 0x01 "Max PASID Width"
    ∷ []

-- Flags of a root complex
abbrev pub root_complex_bits : List Part
root_complex_bits =
    flag 0x1 "PASID Supported"
    ∷ []

abbrev pub root_complex_head_fields : RootComplex → List NamedField
root_complex_head_fields c =
    preset byte "Type" 2  -- 0
    ∷ word "Length" (40 + length c.mappings.bytes)  -- 1
    ∷ preset byte "Revision" 4  -- 3
    ∷ hex dword "Identifier" c.identifier  -- 4
    ∷ dword "Number of ID Mappings" c.mappings.count  -- 8
    ∷ dword "Reference to ID Array" (offset_if c.mappings.count 40)  -- 12
    ∷ one_of coherent_words dword "Cache Coherent Attribute" c.access.cache_coherent  -- 16
    ∷ flags hint_bits byte "Allocation Hints" c.access.hints  -- 20
    ∷ reserved 2  -- 21
    ∷ flags access_bits byte "Memory Access Flags" c.access.flags  -- 23
    ∷ flags ats_bits dword "ATS Attribute" c.ats_attribute  -- 24
    ∷ dword "PCI Segment Number" c.segment  -- 28
    ∷ byte "Memory Address Size Limit" c.address_size_limit  -- 32
    ∷ flags pasid_bits word "PASID Capabilities" c.max_pasid_width  -- 33
    ∷ reserved 1  -- 35
    ∷ flags root_complex_bits dword "Flags" c.flags  -- 36
    ∷ []

abbrev pub root_complex_head : RootComplex → List ℕ
root_complex_head c = fields_joined (root_complex_head_fields c)

abbrev pub root_complex_bytes : RootComplex → List ℕ
root_complex_bytes c = root_complex_head c ++ c.mappings.bytes  -- 40: ID mappings

-- that of node revision 3 (DEN0049E.b), with this identifier
abbrev pub earlier_root_complex : ℕ → RootComplex → EarlierRootComplex
earlier_root_complex identifier c = record { root_complex = record c { identifier = identifier } }

abbrev pub earlier_root_complex_head_fields : EarlierRootComplex → List NamedField
earlier_root_complex_head_fields c =
    preset byte "Type" 2  -- 0
    ∷ word "Length" (36 + length c.root_complex.mappings.bytes)  -- 1
    ∷ preset byte "Revision" 3  -- 3
    ∷ hex dword "Identifier" c.root_complex.identifier  -- 4
    ∷ dword "Number of ID Mappings" c.root_complex.mappings.count  -- 8
    ∷ dword "Reference to ID Array" (offset_if c.root_complex.mappings.count 36)  -- 12
    ∷ one_of coherent_words dword "Cache Coherent Attribute" c.root_complex.access.cache_coherent  -- 16
    ∷ flags hint_bits byte "Allocation Hints" c.root_complex.access.hints  -- 20
    ∷ reserved 2  -- 21
    ∷ flags access_bits byte "Memory Access Flags" c.root_complex.access.flags  -- 23
    ∷ flags ats_bits dword "ATS Attribute" c.root_complex.ats_attribute  -- 24
    ∷ dword "PCI Segment Number" c.root_complex.segment  -- 28
    ∷ byte "Memory Address Size Limit" c.root_complex.address_size_limit  -- 32
    ∷ reserved 3  -- 33
    ∷ []

abbrev pub earlier_root_complex_head : EarlierRootComplex → List ℕ
earlier_root_complex_head c = fields_joined (earlier_root_complex_head_fields c)

abbrev pub earlier_root_complex_bytes : EarlierRootComplex → List ℕ
earlier_root_complex_bytes c = earlier_root_complex_head c ++ c.root_complex.mappings.bytes  -- 36: ID mappings

-- ---- Performance Monitoring Counter Group (PMCG)

-- the offset of the node whose events are counted
abbrev pub monitored_offset : Monitored → ℕ
monitored_offset (monitored.Smmu handle) = handle
monitored_offset (monitored.SmmuV3 handle) = handle
monitored_offset (monitored.RootComplex handle) = handle
monitored_offset (monitored.NamedComponent handle) = handle

abbrev pub pmcg : ℕ → Monitored → Pmcg
pmcg page_0 node = record {
  identifier = 0;
  page_0 = page_0;
  overflow_gsiv = 0;
  node = monitored_offset node;
  page_1 = 0;
  mappings = no_entries;
}

abbrev pub pmcg_head_fields : Pmcg → List NamedField
pmcg_head_fields p =
    preset byte "Type" 5  -- 0
    ∷ word "Length" (40 + length p.mappings.bytes)  -- 1
    ∷ preset byte "Revision" 2  -- 3
    ∷ hex dword "Identifier" p.identifier  -- 4
    ∷ dword "Number of ID Mappings" p.mappings.count  -- 8
    ∷ dword "Reference to ID Array" (offset_if p.mappings.count 40)  -- 12
    ∷ hex qword "Page 0 Base Address" p.page_0  -- 16
    ∷ dword "Overflow Interrupt GSIV" p.overflow_gsiv  -- 24
    ∷ reference dword "Node Reference" p.node  -- 28
    ∷ hex qword "Page 1 Base Address" p.page_1  -- 32
    ∷ []

abbrev pub pmcg_head : Pmcg → List ℕ
pmcg_head p = fields_joined (pmcg_head_fields p)

abbrev pub pmcg_bytes : Pmcg → List ℕ
pmcg_bytes p = pmcg_head p ++ p.mappings.bytes  -- 40: ID mapping

-- ---- Reserved Memory Range (RMR)

-- Access Attributes, at bits 2 to 9 of the flags
abbrev pub attributes_number : AccessAttributes → ℕ
attributes_number attributes.DeviceNGnRnE = 0
attributes_number attributes.DeviceNGnRE = 1
attributes_number attributes.DeviceNGRE = 2
attributes_number attributes.DeviceGRE = 3
attributes_number attributes.NormalNonCacheable = 4
attributes_number attributes.NormalWriteBack = 5

abbrev pub memory_range : ℕ → ℕ → MemoryRange
memory_range base size = record { base = base; size = size }

abbrev pub range_fields : MemoryRange → List NamedField
range_fields r =
    hex qword "Physical Range Offset" r.base  -- 0
    ∷ qword "Physical Range Length" r.size  -- 8
    ∷ reserved 4  -- 16
    ∷ []

abbrev pub range_bytes : MemoryRange → List ℕ
range_bytes r = fields_joined (range_fields r)

abbrev pub reserved_memory : AccessAttributes → ReservedMemory
reserved_memory access = record {
  identifier = 0;
  flags = 4 * attributes_number access;
  ranges = no_entries;
  mappings = no_entries;
}

abbrev pub reserved_memory_size : ReservedMemory → ℕ
reserved_memory_size m = 28 + length m.ranges.bytes + length m.mappings.bytes

-- Flags of reserved memory: Access Attributes in bits 9:2
abbrev pub reserved_memory_bits : List Part
reserved_memory_bits =
    flag 0x001 "Remapping Permitted"
    ∷ flag 0x002 "Privileged Access"
    ∷ choice 0x3fc (
    means 0x000 "Device-nGnRnE"
    ∷ means 0x004 "Device-nGnRE"
    ∷ means 0x008 "Device-nGRE"
    ∷ means 0x00c "Device-GRE"
    ∷ means 0x010 "Normal Inner Non-cacheable Outer Non-cacheable"
    ∷ means 0x014 "Normal Inner Write-back Outer Write-back Inner Shareable"
    ∷ [])
    ∷ []

abbrev pub reserved_memory_head_fields : ReservedMemory → List NamedField
reserved_memory_head_fields m =
    preset byte "Type" 6  -- 0
    ∷ word "Length" (reserved_memory_size m)  -- 1
    ∷ preset byte "Revision" 3  -- 3
    ∷ hex dword "Identifier" m.identifier  -- 4
    ∷ dword "Number of ID Mappings" m.mappings.count  -- 8
    ∷ dword "Reference to ID Array" (offset_if m.mappings.count (28 + length m.ranges.bytes))  -- 12
    ∷ flags reserved_memory_bits dword "Flags" m.flags  -- 16
    ∷ dword "Number of Memory Range Descriptors" m.ranges.count  -- 20
    ∷ dword "Reference to Memory Range Descriptors" (offset_if m.ranges.count 28)  -- 24
    ∷ []

abbrev pub reserved_memory_head : ReservedMemory → List ℕ
reserved_memory_head m = fields_joined (reserved_memory_head_fields m)

-- 28: Memory Range Descriptors, and then the ID mappings
abbrev pub reserved_memory_bytes : ReservedMemory → List ℕ
reserved_memory_bytes m = reserved_memory_head m ++ (m.ranges.bytes ++ m.mappings.bytes)
