-- The RISC-V Hart Capabilities Table (this project's profile).
use Rattle.std.specs.Prelude.{◌≡◌, ◌≢◌, ℕ, ◌+◌, ◌%◌, ◌^◌, ◌<◌, nat_lt, Bool, List, [], ◌∷◌, ◌++◌, length, codes, Some}
use Rattle.acpi_base.specs.declared.error.Error.TheVariants.{Memory, FieldWidth}
use Rattle.acpi_base.specs.Bytes.{le, field_at, zeros}
use Rattle.acpi_base.specs.Fields.{NamedField, byte, word, dword, qword, preset, flags, one_of, reserved, fields_joined}
use Rattle.acpi_base.specs.Look.{Part, flag, means}
use Rattle.acpi_base.specs.Object.{Object, whole, provided, provided_ends_well}
use Rattle.acpi_base.specs.declared.oem.Oem.{Oem}
use Rattle.acpi_core.specs.Calls.{NodeStands}
use Rattle.acpi_core.specs.Listing.{Listing, length_limit}
use Rattle.acpi_core.specs.Offset.{StandIn}
use Rattle.acpi_nodes.specs.Hart.{hart_info, with_offset, hart_info_bytes}
use Rattle.acpi_nodes.specs.declared.rhct.CmoNode.{CmoNode}
use Rattle.acpi_nodes.specs.declared.rhct.HartInfoNode.{HartInfoNode}
use Rattle.acpi_nodes.specs.declared.rhct.MmuNode.{MmuNode}
use Rattle.acpi_nodes.specs.declared.rhct.VirtualAddressScheme.{VirtualAddressScheme}
use Rattle.acpi_nodes.specs.declared.rhct.VirtualAddressScheme.TheVariants.{Sv39, Sv48, Sv57}

-- Flags of the table
abbrev pub rhct_bits : List Part
rhct_bits =
    flag 0x1 "Timer cannot wake the processor"
    ∷ []

-- the fields between the header and the number of nodes
abbrev pub rhct_fields : ℕ → List NamedField
rhct_fields timebase_frequency =
    flags rhct_bits dword "Flags" 0  -- 36
    ∷ qword "Time Base Frequency" timebase_frequency  -- 40
    ∷ []

-- a table without nodes
abbrev pub rhct : Oem → ℕ → Listing
rhct oem timebase_frequency = record {
  signature = codes "RHCT";
  revision = 1;
  oem = oem;
  before = fields_joined (rhct_fields timebase_frequency);
  count_width = 4;  -- 48: Number of RHCT Nodes
  after = le 4 56;  -- 52: Offset of the RHCT Node Structure Array
  limit = length_limit;
  structures = [];
}

-- ---- ISA String Node

-- a text's NUL, and one more byte if the length with the NUL is odd
abbrev pub isa_string_end : ℕ → ℕ
isa_string_end n = 1 + (n + 1) % 2

-- a text has at most 65,525 bytes, because the node's length has two bytes
abbrev pub is_isa_string : List ℕ → Bool
is_isa_string text = nat_lt (length text) 65526

-- for a text of this many bytes
abbrev pub isa_string_head_fields : ℕ → List NamedField
isa_string_head_fields n =
    preset word "Type" 0  -- 0
    ∷ word "Length" (8 + n + isa_string_end n)  -- 2
    ∷ preset word "Revision" 1  -- 4
    ∷ word "ISA string length" (n + 1)  -- 6
    ∷ []

abbrev pub isa_string_head : ℕ → List ℕ
isa_string_head n = fields_joined (isa_string_head_fields n)

abbrev pub isa_string_bytes : List ℕ → List ℕ
isa_string_bytes text = isa_string_head (length text) ++ (text ++ zeros (isa_string_end (length text)))  -- 8: ISA string

abbrev pub isa_string_object : List ℕ → Object
isa_string_object text = provided (is_isa_string text) FieldWidth (whole (isa_string_bytes text))

pub isa_string_ends_well : (text : List ℕ) → (isa_string_object text).end ≢ Some Memory
isa_string_ends_well text = provided_ends_well (is_isa_string text) FieldWidth (isa_string_bytes text) (λ is. cc)

-- ---- CMO Node

-- blocks of 2^n bytes, for each of these exponents
abbrev pub cmo : ℕ → ℕ → ℕ → CmoNode
cmo cbom cbop cboz = record { cbom = cbom; cbop = cbop; cboz = cboz }

abbrev pub cmo_fields : CmoNode → List NamedField
cmo_fields c =
    preset word "Type" 1  -- 0
    ∷ preset word "Length" 10  -- 2
    ∷ preset word "Revision" 1  -- 4
    ∷ reserved 1  -- 6
    ∷ byte "CBOM Block Size" c.cbom  -- 7
    ∷ byte "CBOP Block Size" c.cbop  -- 8
    ∷ byte "CBOZ Block Size" c.cboz  -- 9
    ∷ []

abbrev pub cmo_bytes : CmoNode → List ℕ
cmo_bytes c = fields_joined (cmo_fields c)

-- ---- MMU Node

abbrev pub scheme_number : VirtualAddressScheme → ℕ
scheme_number Sv39 = 0
scheme_number Sv48 = 1
scheme_number Sv57 = 2

abbrev pub mmu : VirtualAddressScheme → MmuNode
mmu scheme = record { scheme = scheme_number scheme }

-- the words of MMU Type
abbrev pub scheme_words : List (ℕ × List ℕ)
scheme_words =
    means 0 "Sv39"
    ∷ means 1 "Sv48"
    ∷ means 2 "Sv57"
    ∷ []

abbrev pub mmu_fields : MmuNode → List NamedField
mmu_fields m =
    preset word "Type" 2  -- 0
    ∷ preset word "Length" 8  -- 2
    ∷ preset word "Revision" 1  -- 4
    ∷ reserved 1  -- 6
    ∷ one_of scheme_words byte "MMU Type" m.scheme  -- 7
    ∷ []

abbrev pub mmu_bytes : MmuNode → List ℕ
mmu_bytes m = fields_joined (mmu_fields m)

-- Each node begins with its type, in two bytes, for all values of its fields.
pub record NodesTellKinds : Type 0 where
  pub isa_strings : (text : List ℕ) → StandIn (isa_string_bytes text) 0 (0 ∷ 0 ∷ [])
  pub cmos : (c : CmoNode) → StandIn (cmo_bytes c) 0 (1 ∷ 0 ∷ [])
  pub mmus : (m : MmuNode) → StandIn (mmu_bytes m) 0 (2 ∷ 0 ∷ [])
  pub harts : (h : HartInfoNode) → StandIn (hart_info_bytes h) 0 (255 ∷ 255 ∷ [])

-- At the offset that an adder returned, the bytes of a table have the node, and so its type. This holds after any later calls.
pub record NodesStand (t : Listing) : Type 0 where
  pub isa_strings : (text : List ℕ) → NodeStands t (isa_string_object text) (0 ∷ 0 ∷ [])
  pub cmos : (c : CmoNode) → NodeStands t (whole (cmo_bytes c)) (1 ∷ 0 ∷ [])

-- The bytes of a node contain each of its references to other nodes.
pub record ReferencesAreRead : Type 0 where
  pub isa_strings : (uid offset : ℕ) → offset < 2 ^ 32 → field_at 12 4 (hart_info_bytes (hart_info uid offset)) ≡ offset
  pub others : (h : HartInfoNode) (offset : ℕ) → offset < 2 ^ 32
      → field_at (12 + length h.offsets.bytes) 4 (hart_info_bytes (with_offset h offset)) ≡ offset
