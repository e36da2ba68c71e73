-- System Locality Latency and Bandwidth Information Structure (ACPI 6.5, 5.2.28.4).
use Rattle.std.specs.Prelude.{◌≡◌, ℕ, ◌+◌, ◌*◌, ◌^◌, ◌<◌, nat_lt, ◌&&◌, ◌∷◌, ◌++◌}
use Rattle.std.specs.Prelude.{Bool, true, false, List, [], length, replicate, Result, OnOk, OnErr, IfErr}
use Rattle.acpi_base.specs.declared.error.Error.{Error}
use Rattle.acpi_base.specs.declared.error.Error.TheVariants.{Index}
use Rattle.acpi_base.specs.Bytes.{le, put, field_at, zeros}
use Rattle.acpi_base.specs.Fields.{NamedField, byte, word, dword, qword, preset, flags, one_of, reserved, fields_joined}
use Rattle.acpi_base.specs.Look.{Part, flag, choice, means}
use Rattle.acpi_matrices.specs.declared.hmat.locality.DataType.{DataType}
use Rattle.acpi_matrices.specs.declared.hmat.locality.DataType.TheVariants as types
use Rattle.acpi_matrices.specs.declared.hmat.locality.MinTransferSize.{MinTransferSize}
use Rattle.acpi_matrices.specs.declared.hmat.locality.MinTransferSize.TheVariants as sizes
use Rattle.acpi_matrices.specs.declared.hmat.locality.LocalityType.{LocalityType}
use Rattle.acpi_matrices.specs.declared.hmat.locality.LocalityType.TheVariants as memories

-- Memory Hierarchy: bits 0 to 3 of the flags
abbrev pub hierarchy_number : LocalityType → ℕ
hierarchy_number memories.Memory = 0
hierarchy_number memories.FirstLevelCache = 1
hierarchy_number memories.SecondLevelCache = 2
hierarchy_number memories.ThirdLevelCache = 3

abbrev pub data_type_number : DataType → ℕ
data_type_number types.AccessLatency = 0
data_type_number types.ReadLatency = 1
data_type_number types.WriteLatency = 2
data_type_number types.AccessBandwidth = 3
data_type_number types.ReadBandwidth = 4
data_type_number types.WriteBandwidth = 5

abbrev pub transfer_number : MinTransferSize → ℕ
transfer_number sizes.SizeByteAligned = 0
transfer_number sizes.Size64b = 1
transfer_number sizes.Size128b = 2
transfer_number sizes.Size256b = 3
transfer_number sizes.Size512b = 4
transfer_number sizes.Size1k = 5
transfer_number sizes.Size2k = 6
transfer_number sizes.Size4k = 7
transfer_number sizes.Size8k = 8
transfer_number sizes.Size16k = 9
transfer_number sizes.Size32k = 10
transfer_number sizes.Size64k = 11

-- A matrix with these numbers of initiators and targets. Its lists are bytes, in this order: the initiators' domains of four
-- bytes each, the targets' domains of four, and the entries of two, row by initiator.
pub record Locality : Type 0 where
  pub flags : ℕ
  pub data_type : DataType
  pub transfer : MinTransferSize
  pub unit : ℕ
  pub initiators : ℕ
  pub targets : ℕ
  pub lists : List ℕ

-- the number of bytes of the lists
abbrev pub lists_size : ℕ → ℕ → ℕ
lists_size initiators targets = 4 * initiators + 4 * targets + 2 * (initiators * targets)

-- the number of bytes of the structure
abbrev pub locality_size : ℕ → ℕ → ℕ
locality_size initiators targets = 32 + lists_size initiators targets

-- each domain is 0, and each entry 0xffff
abbrev pub locality : LocalityType → DataType → MinTransferSize → ℕ → ℕ → ℕ → Locality
locality hierarchy data_type transfer unit initiators targets = record {
  flags = hierarchy_number hierarchy;
  data_type = data_type;
  transfer = transfer;
  unit = unit;
  initiators = initiators;
  targets = targets;
  lists = zeros (4 * initiators + 4 * targets) ++ replicate (2 * (initiators * targets)) 255;
}

-- the lists have the right number of bytes, and the size fits its field
pub record IsLocality (l : Locality) : Type 0 where
  pub lists : length l.lists ≡ lists_size l.initiators l.targets
  pub fits : locality_size l.initiators l.targets < 2 ^ 32

-- Flags of a locality: the memory hierarchy in bits 3:0
abbrev pub locality_bits : List Part
locality_bits =
    choice 0x0f (
    means 0x00 "Memory"
    ∷ means 0x01 "First Level Memory Side Cache"
    ∷ means 0x02 "Second Level Memory Side Cache"
    ∷ means 0x03 "Third Level Memory Side Cache"
    ∷ [])
    ∷ flag 0x10 "Minimum Transfer Size"
    ∷ flag 0x20 "Non-sequential Transfers"
    ∷ []

-- the words of Data Type
abbrev pub data_type_words : List (ℕ × List ℕ)
data_type_words =
    means 0 "Access Latency"
    ∷ means 1 "Read Latency"
    ∷ means 2 "Write Latency"
    ∷ means 3 "Access Bandwidth"
    ∷ means 4 "Read Bandwidth"
    ∷ means 5 "Write Bandwidth"
    ∷ []

-- the words of MinTransferSize
abbrev pub transfer_words : List (ℕ × List ℕ)
transfer_words =
    means 0 "Byte Aligned"
    ∷ means 1 "64 Bytes"
    ∷ means 2 "128 Bytes"
    ∷ means 3 "256 Bytes"
    ∷ means 4 "512 Bytes"
    ∷ means 5 "1 KiB"
    ∷ means 6 "2 KiB"
    ∷ means 7 "4 KiB"
    ∷ means 8 "8 KiB"
    ∷ means 9 "16 KiB"
    ∷ means 10 "32 KiB"
    ∷ means 11 "64 KiB"
    ∷ []

abbrev pub locality_head_fields : Locality → List NamedField
locality_head_fields l =
    preset word "Type" 1  -- 0
    ∷ reserved 2  -- 2
    ∷ dword "Length" (32 + length l.lists)  -- 4
    ∷ flags locality_bits byte "Flags" l.flags  -- 8
    ∷ one_of data_type_words byte "Data Type" (data_type_number l.data_type)  -- 9
    ∷ one_of transfer_words byte "MinTransferSize" (transfer_number l.transfer)  -- 10
    ∷ reserved 1  -- 11
    ∷ dword "Number of Initiator Proximity Domains" l.initiators  -- 12
    ∷ dword "Number of Target Proximity Domains" l.targets  -- 16
    ∷ reserved 4  -- 20
    ∷ qword "Entry Base Unit" l.unit  -- 24
    ∷ []

abbrev pub locality_head : Locality → List ℕ
locality_head l = fields_joined (locality_head_fields l)

abbrev pub locality_bytes : Locality → List ℕ
locality_bytes l = locality_head l ++ l.lists  -- 32: Initiator List, Target List, Entries

-- ---- cells

-- a cell: an initiator's domain, a target's domain, or the entry of an initiator and a target
pub data Cell : Type 0 where
  initiator_at : ℕ → Cell
  target_at : ℕ → Cell
  entry_at : ℕ → ℕ → Cell

abbrev pub has_cell : Locality → Cell → Bool
has_cell l (initiator_at i) = nat_lt i l.initiators
has_cell l (target_at t) = nat_lt t l.targets
has_cell l (entry_at i t) = nat_lt i l.initiators && nat_lt t l.targets

-- the offset of a cell in the lists
abbrev pub place_of : ℕ → ℕ → Cell → ℕ
place_of initiators targets (initiator_at i) = 4 * i
place_of initiators targets (target_at t) = 4 * initiators + 4 * t
place_of initiators targets (entry_at i t) = 4 * initiators + 4 * targets + 2 * (i * targets + t)

-- the number of bytes of a cell
abbrev pub width_of : Cell → ℕ
width_of (initiator_at i) = 4
width_of (target_at t) = 4
width_of (entry_at i t) = 2

-- the value of a cell
abbrev pub value_at : Locality → Cell → ℕ
value_at l cell = field_at (place_of l.initiators l.targets cell) (width_of cell) l.lists

abbrev pub with_value : Locality → Cell → ℕ → Locality
with_value l cell value = record {
  flags = l.flags;
  data_type = l.data_type;
  transfer = l.transfer;
  unit = l.unit;
  initiators = l.initiators;
  targets = l.targets;
  lists = put (place_of l.initiators l.targets cell) (le (width_of cell) value) l.lists;
}

-- The cell was set; or there is no such cell, and nothing changed.
pub record Sets (result : Result Unit Error) (old : Locality) (cell : Cell) (value : ℕ) (new : Locality) : Type 0 where
  pub ok : OnOk result (new ≡ with_value old cell value)
  pub inside : OnOk result (has_cell old cell ≡ true)
  pub err : OnErr result (new ≡ old)
  pub cause : IfErr result (λ e. (e ≡ Index) × (has_cell old cell ≡ false))

-- The cell that was set has its new value, and every other cell is unchanged.
abbrev pub CellsAreSet : Type 0
CellsAreSet =
    (l : Locality) (cell other : Cell) (value : ℕ) → IsLocality l → has_cell l cell ≡ true → has_cell l other ≡ true
    → value < 256 ^ width_of cell
    → IsLocality (with_value l cell value)
    × (value_at (with_value l cell value) cell ≡ value)
    × ((other ≡ cell → ⊥) → value_at (with_value l cell value) other ≡ value_at l other)

-- The structure's bytes contain the initiators' domains from offset 32 on, then the targets' domains, and then the entries, row
-- by initiator.
pub record CellsStand (l : Locality) : Type 0 where
  pub initiators : (i : ℕ) → field_at (32 + 4 * i) 4 (locality_bytes l) ≡ value_at l (initiator_at i)
  pub targets : (t : ℕ) → field_at (32 + 4 * l.initiators + 4 * t) 4 (locality_bytes l) ≡ value_at l (target_at t)
  pub entries : (i t : ℕ) → field_at (32 + 4 * l.initiators + 4 * l.targets + 2 * (i * l.targets + t)) 2 (locality_bytes l)
      ≡ value_at l (entry_at i t)

-- the value of a cell in a new matrix
abbrev pub first_value : Cell → ℕ
first_value (initiator_at i) = 0
first_value (target_at t) = 0
first_value (entry_at i t) = 0xffff

abbrev pub NewCellsAreUnreachable : Type 0
NewCellsAreUnreachable =
    (hierarchy : LocalityType) (data_type : DataType) (transfer : MinTransferSize) (unit initiators targets : ℕ) (cell : Cell)
    → has_cell (locality hierarchy data_type transfer unit initiators targets) cell ≡ true
    → value_at (locality hierarchy data_type transfer unit initiators targets) cell ≡ first_value cell
