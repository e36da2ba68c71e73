-- The CXL Early Discovery Table (CXL 3.0, 9.17.1, in this project's profile).
use Rattle.std.specs.Prelude.{◌≢◌, ℕ, ◌+◌, ◌*◌, ◌==◌, Bool, List, [], ◌∷◌, ◌++◌, length, codes, Some}
use Rattle.acpi_base.specs.declared.error.Error.TheVariants.{Memory, Targets}
use Rattle.acpi_base.specs.Fields.{NamedField, byte, word, dword, qword, hex, preset, flags, one_of, reserved, fields_joined}
use Rattle.acpi_base.specs.Look.{Part, flag, means}
use Rattle.acpi_base.specs.Pci.{bdf_bits}
use Rattle.acpi_base.specs.Object.{Object, whole, provided, provided_ends_well}
use Rattle.acpi_base.specs.declared.oem.Oem.{Oem}
use Rattle.acpi_core.specs.Listing.{Listing, length_limit}
use Rattle.acpi_lists.specs.declared.cedt.CxlVersion.{CxlVersion}
use Rattle.acpi_lists.specs.declared.cedt.CxlVersion.TheVariants.{Cxl1_1, Cxl2}
use Rattle.acpi_lists.specs.declared.cedt.InterleaveArithmetic.{InterleaveArithmetic}
use Rattle.acpi_lists.specs.declared.cedt.InterleaveArithmetic.TheVariants.{Modulo, ModuloXor}
use Rattle.acpi_lists.specs.declared.cedt.InterleaveGranularity.{InterleaveGranularity}
use Rattle.acpi_lists.specs.declared.cedt.InterleaveGranularity.TheVariants.{Granularity256b, Granularity512b, Granularity1kb}
use Rattle.acpi_lists.specs.declared.cedt.InterleaveGranularity.TheVariants.{Granularity2kb, Granularity4kb, Granularity8kb}
use Rattle.acpi_lists.specs.declared.cedt.InterleaveGranularity.TheVariants.{Granularity16kb}
use Rattle.acpi_lists.specs.declared.cedt.InterleaveWays.{InterleaveWays}
use Rattle.acpi_lists.specs.declared.cedt.InterleaveWays.TheVariants.{Ways1, Ways2, Ways4, Ways8, Ways16, Ways3, Ways6, Ways12}
use Rattle.acpi_lists.specs.declared.cedt.ProtocolType.{ProtocolType}
use Rattle.acpi_lists.specs.declared.cedt.ProtocolType.TheVariants.{CxlIo, CxlMem}
use Rattle.acpi_lists.specs.declared.cedt.CxlHostBridge.{CxlHostBridge}
use Rattle.acpi_lists.specs.declared.cedt.PortAssociation.{PortAssociation}

-- a table without structures
abbrev pub cedt : Oem → Listing
cedt oem = record {
  signature = codes "CEDT";
  revision = 1;
  oem = oem;
  before = [];
  count_width = 0;
  after = [];
  limit = length_limit;
  structures = [];
}

-- ---- CXL Host Bridge Structure

abbrev pub version_number : CxlVersion → ℕ
version_number Cxl1_1 = 0
version_number Cxl2 = 1

-- the number of bytes of a bridge's registers: the RCRB of version 1.1, or the component registers
abbrev pub registers_of : CxlVersion → ℕ
registers_of Cxl1_1 = 0x2000
registers_of Cxl2 = 0x10000

abbrev pub host_bridge : ℕ → CxlVersion → ℕ → CxlHostBridge
host_bridge uid version base = record { uid = uid; version = version; base = base }

-- the words of CXL Version
abbrev pub version_words : List (ℕ × List ℕ)
version_words =
    means 0 "CXL 1.1"
    ∷ means 1 "CXL 2.0"
    ∷ []

abbrev pub host_bridge_fields : CxlHostBridge → List NamedField
host_bridge_fields b =
    preset byte "Type" 0  -- 0
    ∷ reserved 1  -- 1
    ∷ preset word "Record Length" 32  -- 2
    ∷ hex dword "UID" b.uid  -- 4
    ∷ one_of version_words dword "CXL Version" (version_number b.version)  -- 8
    ∷ reserved 4  -- 12
    ∷ hex qword "Base" b.base  -- 16
    ∷ qword "Length" (registers_of b.version)  -- 24
    ∷ []

abbrev pub host_bridge_bytes : CxlHostBridge → List ℕ
host_bridge_bytes b = fields_joined (host_bridge_fields b)

-- ---- CXL Fixed Memory Window Structure

abbrev pub arithmetic_number : InterleaveArithmetic → ℕ
arithmetic_number Modulo = 0
arithmetic_number ModuloXor = 1

abbrev pub granularity_number : InterleaveGranularity → ℕ
granularity_number Granularity256b = 0
granularity_number Granularity512b = 1
granularity_number Granularity1kb = 2
granularity_number Granularity2kb = 3
granularity_number Granularity4kb = 4
granularity_number Granularity8kb = 5
granularity_number Granularity16kb = 6

-- Encoded Number of Interleave Ways
abbrev pub ways_number : InterleaveWays → ℕ
ways_number Ways1 = 0
ways_number Ways2 = 1
ways_number Ways4 = 2
ways_number Ways8 = 3
ways_number Ways16 = 4
ways_number Ways3 = 8
ways_number Ways6 = 9
ways_number Ways12 = 10

-- the number of ways
abbrev pub ways_count : InterleaveWays → ℕ
ways_count Ways1 = 1
ways_count Ways2 = 2
ways_count Ways4 = 4
ways_count Ways8 = 8
ways_count Ways16 = 16
ways_count Ways3 = 3
ways_count Ways6 = 6
ways_count Ways12 = 12

-- a memory window, and the ids of its targets, which have four bytes each
pub record Window : Type 0 where
  pub base : ℕ
  pub size : ℕ
  pub arithmetic : InterleaveArithmetic
  pub granularity : InterleaveGranularity
  pub ways : InterleaveWays
  pub restrictions : ℕ
  pub qtg_id : ℕ
  pub targets : List ℕ

abbrev pub window : ℕ → ℕ → InterleaveArithmetic → InterleaveGranularity → InterleaveWays → ℕ → Window
window base size arithmetic granularity ways qtg_id = record {
  base = base;
  size = size;
  arithmetic = arithmetic;
  granularity = granularity;
  ways = ways;
  restrictions = 0;
  qtg_id = qtg_id;
  targets = [];
}

-- the words of Encoded Number of Interleave Ways
abbrev pub ways_words : List (ℕ × List ℕ)
ways_words =
    means 0 "1 Way"
    ∷ means 1 "2 Ways"
    ∷ means 2 "4 Ways"
    ∷ means 3 "8 Ways"
    ∷ means 4 "16 Ways"
    ∷ means 8 "3 Ways"
    ∷ means 9 "6 Ways"
    ∷ means 10 "12 Ways"
    ∷ []

-- the words of Interleave Arithmetic
abbrev pub arithmetic_words : List (ℕ × List ℕ)
arithmetic_words =
    means 0 "Standard Modulo"
    ∷ means 1 "Modulo with XOR"
    ∷ []

-- the words of Host Bridge Interleave Granularity
abbrev pub granularity_words : List (ℕ × List ℕ)
granularity_words =
    means 0 "256 Bytes"
    ∷ means 1 "512 Bytes"
    ∷ means 2 "1 KiB"
    ∷ means 3 "2 KiB"
    ∷ means 4 "4 KiB"
    ∷ means 5 "8 KiB"
    ∷ means 6 "16 KiB"
    ∷ []

-- Window Restrictions
abbrev pub restriction_bits : List Part
restriction_bits =
    flag 0x01 "CXL Type 2 Memory"
    ∷ flag 0x02 "CXL Type 3 Memory"
    ∷ flag 0x04 "Volatile"
    ∷ flag 0x08 "Persistent"
    ∷ flag 0x10 "Fixed Device Configuration"
    ∷ []

abbrev pub window_head_fields : Window → List NamedField
window_head_fields w =
    preset byte "Type" 1  -- 0
    ∷ reserved 1  -- 1
    ∷ word "Record Length" (36 + length w.targets)  -- 2
    ∷ reserved 4  -- 4
    ∷ hex qword "Base HPA" w.base  -- 8
    ∷ qword "Window Size" w.size  -- 16
    ∷ one_of ways_words byte "Encoded Number of Interleave Ways" (ways_number w.ways)  -- 24
    ∷ one_of arithmetic_words byte "Interleave Arithmetic" (arithmetic_number w.arithmetic)  -- 25
    ∷ reserved 2  -- 26
    ∷ one_of granularity_words dword "Host Bridge Interleave Granularity" (granularity_number w.granularity)  -- 28
    ∷ flags restriction_bits word "Window Restrictions" w.restrictions  -- 32
    ∷ hex word "QTG ID" w.qtg_id  -- 34
    ∷ []

abbrev pub window_head : Window → List ℕ
window_head w = fields_joined (window_head_fields w)

abbrev pub window_bytes : Window → List ℕ
window_bytes w = window_head w ++ w.targets  -- 36: Interleave Target List

-- the number of targets is the number of ways
abbrev pub has_targets : Window → Bool
has_targets w = length w.targets == 4 * ways_count w.ways

abbrev pub window_object : Window → Object
window_object w = provided (has_targets w) Targets (whole (window_bytes w))

pub window_ends_well : (w : Window) → (window_object w).end ≢ Some Memory
window_ends_well w = provided_ends_well (has_targets w) Targets (window_bytes w) (λ is. cc)

-- ---- CXL XOR Interleave Math Structure

-- the number of maps, and their bytes: each map has eight
pub record XorMaps : Type 0 where
  pub granularity : InterleaveGranularity
  pub count : ℕ
  pub maps : List ℕ

abbrev pub no_maps : InterleaveGranularity → XorMaps
no_maps granularity = record { granularity = granularity; count = 0; maps = [] }

abbrev pub maps_head_fields : XorMaps → List NamedField
maps_head_fields x =
    preset byte "Type" 2  -- 0
    ∷ reserved 1  -- 1
    ∷ word "Record Length" (8 + length x.maps)  -- 2
    ∷ reserved 2  -- 4
    ∷ one_of granularity_words byte "Host Bridge Interleave Granularity" (granularity_number x.granularity)  -- 6
    ∷ byte "Number of Bitmap Entries" x.count  -- 7
    ∷ []

abbrev pub maps_head : XorMaps → List ℕ
maps_head x = fields_joined (maps_head_fields x)

abbrev pub maps_bytes : XorMaps → List ℕ
maps_bytes x = maps_head x ++ x.maps  -- 8: XORMAP List

-- ---- RCEC Downstream Port Association Structure

abbrev pub protocol_number : ProtocolType → ℕ
protocol_number CxlIo = 0
protocol_number CxlMem = 1

abbrev pub port_association : ℕ → ℕ → ℕ → ℕ → ProtocolType → ℕ → PortAssociation
port_association segment bus device function protocol base = record {
  segment = segment;
  bdf = bus * 256 + device * 8 + function;
  protocol = protocol;
  base = base;
}

-- the words of Protocol Type
abbrev pub protocol_words : List (ℕ × List ℕ)
protocol_words =
    means 0 "CXL.io"
    ∷ means 1 "CXL.cachemem"
    ∷ []

abbrev pub port_association_fields : PortAssociation → List NamedField
port_association_fields p =
    preset byte "Type" 3  -- 0
    ∷ reserved 1  -- 1
    ∷ preset word "Record Length" 17  -- 2
    ∷ word "RCEC Segment Number" p.segment  -- 4
    ∷ flags bdf_bits word "RCEC BDF" p.bdf  -- 6
    ∷ one_of protocol_words byte "Protocol Type" (protocol_number p.protocol)  -- 8
    ∷ hex qword "Base Address" p.base  -- 9
    ∷ []

abbrev pub port_association_bytes : PortAssociation → List ℕ
port_association_bytes p = fields_joined (port_association_fields p)
