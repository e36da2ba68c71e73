-- The Processor Properties Topology Table (ACPI 6.5, 5.2.30).
use Rattle.std.specs.Prelude.{◌≡◌, ℕ, ◌+◌, ◌^◌, ◌<◌, List, [], ◌∷◌, ◌++◌, length, codes}
use Rattle.acpi_base.specs.Bytes.{field_at}
use Rattle.acpi_base.specs.Fields.{NamedField, byte, word, dword, hex, preset, reference, flags, reserved, fields_joined}
use Rattle.acpi_base.specs.Look.{Part, flag, choice, means}
use Rattle.acpi_base.specs.declared.oem.Oem.{Oem}
use Rattle.acpi_base.specs.Object.{whole}
use Rattle.acpi_core.specs.Calls.{NodeStands}
use Rattle.acpi_core.specs.Listing.{Listing, length_limit}
use Rattle.acpi_core.specs.Offset.{StandIn}
use Rattle.acpi_nodes.specs.declared.pptt.AllocationType.{AllocationType}
use Rattle.acpi_nodes.specs.declared.pptt.AllocationType.TheVariants.{Read, Write, Both}
use Rattle.acpi_nodes.specs.declared.pptt.CacheType.{CacheType}
use Rattle.acpi_nodes.specs.declared.pptt.CacheType.TheVariants.{Data, Instruction, Unified}
use Rattle.acpi_nodes.specs.declared.pptt.WritePolicy.{WritePolicy}
use Rattle.acpi_nodes.specs.declared.pptt.WritePolicy.TheVariants.{Writeback, Writethrough}
use Rattle.acpi_nodes.specs.declared.pptt.ProcessorNode.{ProcessorNode}
use Rattle.acpi_nodes.specs.declared.pptt.CacheNode.{CacheNode}
use Rattle.acpi_nodes.specs.declared.pptt.CacheNodeBuilder.{CacheNodeBuilder}
use Rattle.acpi_nodes.specs.Resources.{no_resources, with_resource}

-- a table of a revision without nodes
abbrev pub pptt_of : ℕ → Oem → Listing
pptt_of revision oem = record {
  signature = codes "PPTT";
  revision = revision;
  oem = oem;
  before = [];
  count_width = 0;
  after = [];
  limit = length_limit;
  structures = [];
}

-- that of the revision of `new`
abbrev pub pptt : Oem → Listing
pptt oem = pptt_of 3 oem

-- ---- Processor hierarchy node structure (5.2.30.1)

-- a node below the one at the offset `parent`, which is 0 for a root
abbrev pub processor : ℕ → ℕ → ProcessorNode
processor parent id = record { flags = 0; parent = parent; acpi_processor_id = id; resources = no_resources }

-- Processor Structure Flags
abbrev pub processor_node_bits : List Part
processor_node_bits =
    flag 0x01 "Physical package"
    ∷ flag 0x02 "ACPI Processor ID valid"
    ∷ flag 0x04 "Processor is a Thread"
    ∷ flag 0x08 "Node is a Leaf"
    ∷ flag 0x10 "Identical Implementation"
    ∷ []

abbrev pub processor_head_fields : ProcessorNode → List NamedField
processor_head_fields p =
    preset byte "Type" 0  -- 0
    ∷ byte "Length" (20 + length p.resources.bytes)  -- 1
    ∷ reserved 2  -- 2
    ∷ flags processor_node_bits dword "Flags" p.flags  -- 4
    ∷ reference dword "Parent" p.parent  -- 8
    ∷ hex dword "ACPI Processor ID" p.acpi_processor_id  -- 12
    ∷ dword "Number of private resources" p.resources.count  -- 16
    ∷ []

abbrev pub processor_head : ProcessorNode → List ℕ
processor_head p = fields_joined (processor_head_fields p)

abbrev pub processor_bytes : ProcessorNode → List ℕ
processor_bytes p = processor_head p ++ p.resources.bytes  -- 20: Private resources

-- ---- Cache Type Structure (5.2.30.2)

-- Attributes: bits 0 and 1
abbrev pub allocation_number : AllocationType → ℕ
allocation_number Read = 0
allocation_number Write = 1
allocation_number Both = 2

-- Attributes: bits 2 and 3
abbrev pub type_number : CacheType → ℕ
type_number Data = 0
type_number Instruction = 4
type_number Unified = 8

-- Attributes: bit 4
abbrev pub policy_number : WritePolicy → ℕ
policy_number Writeback = 0
policy_number Writethrough = 16

-- a builder in which every field is zero
abbrev pub no_cache : CacheNodeBuilder
no_cache = record {
  flags = 0;
  next_level = 0;
  size = 0;
  sets = 0;
  associativity = 0;
  attributes = 0;
  line_size = 0;
  id = 0;
}

-- the node that a builder makes
abbrev pub cache_of : CacheNodeBuilder → CacheNode
cache_of b = record {
  flags = b.flags;
  next_level = b.next_level;
  size = b.size;
  sets = b.sets;
  associativity = b.associativity;
  attributes = b.attributes;
  line_size = b.line_size;
  id = b.id;
}

-- Cache Structure Flags
abbrev pub cache_bits : List Part
cache_bits =
    flag 0x01 "Size valid"
    ∷ flag 0x02 "Number of sets valid"
    ∷ flag 0x04 "Associativity valid"
    ∷ flag 0x08 "Allocation type valid"
    ∷ flag 0x10 "Cache type valid"
    ∷ flag 0x20 "Write policy valid"
    ∷ flag 0x40 "Line size valid"
    ∷ flag 0x80 "Cache ID valid"
    ∷ []

-- Attributes: Allocation type in bits 1:0, Cache type in bits 3:2, Write policy in bit 4
abbrev pub cache_attribute_bits : List Part
cache_attribute_bits =
    choice 0x03 (
    means 0x00 "Read Allocate"
    ∷ means 0x01 "Write Allocate"
    ∷ means 0x02 "Read and Write Allocate"
    ∷ means 0x03 "Read and Write Allocate"
    ∷ [])
    ∷ choice 0x0c (means 0x00 "Data" ∷ means 0x04 "Instruction" ∷ means 0x08 "Unified" ∷ means 0x0c "Unified" ∷ [])
    ∷ choice 0x10 (means 0x00 "Write Back" ∷ means 0x10 "Write Through" ∷ [])
    ∷ []

abbrev pub cache_fields : CacheNode → List NamedField
cache_fields c =
    preset byte "Type" 1  -- 0
    ∷ preset byte "Length" 28  -- 1
    ∷ reserved 2  -- 2
    ∷ flags cache_bits dword "Flags" c.flags  -- 4
    ∷ reference dword "Next Level of Cache" c.next_level  -- 8
    ∷ dword "Size" c.size  -- 12
    ∷ dword "Number of sets" c.sets  -- 16
    ∷ byte "Associativity" c.associativity  -- 20
    ∷ flags cache_attribute_bits byte "Attributes" c.attributes  -- 21
    ∷ word "Line size" c.line_size  -- 22
    ∷ hex dword "Cache ID" c.id  -- 24
    ∷ []

abbrev pub cache_bytes : CacheNode → List ℕ
cache_bytes c = fields_joined (cache_fields c)

-- Each node begins with its type, for all values of its fields.
pub record NodesTellKinds : Type 0 where
  pub processors : (p : ProcessorNode) → StandIn (processor_bytes p) 0 (0 ∷ [])
  pub caches : (c : CacheNode) → StandIn (cache_bytes c) 0 (1 ∷ [])

-- At the offset that an adder returned, the bytes of a table have the node, and so its type. This holds after any later calls.
pub record NodesStand (t : Listing) : Type 0 where
  pub processors : (p : ProcessorNode) → NodeStands t (whole (processor_bytes p)) (0 ∷ [])
  pub caches : (c : CacheNode) → NodeStands t (whole (cache_bytes c)) (1 ∷ [])

-- The bytes of a node contain each of its references to other nodes.
pub record ReferencesAreRead : Type 0 where
  pub parents : (p : ProcessorNode) → p.parent < 2 ^ 32 → field_at 8 4 (processor_bytes p) ≡ p.parent
  pub next_levels : (c : CacheNode) → c.next_level < 2 ^ 32 → field_at 8 4 (cache_bytes c) ≡ c.next_level
  pub resources : (p : ProcessorNode) (offset : ℕ) → offset < 2 ^ 32
      → field_at (20 + length p.resources.bytes) 4 (processor_bytes (record p { resources = with_resource p.resources offset }))
      ≡ offset
