-- The I/O Remapping Table (Arm DEN0049E.d), its ID mappings and what its nodes share.
use Rattle.std.specs.Prelude.{◌≡◌, ◌≢◌, ℕ, ◌<◌, List, [], ◌∷◌, ◌++◌, codes, Result, OnOk, OnErr, IfErr}
use Rattle.acpi_base.specs.Bytes.{le, zeros}
use Rattle.acpi_base.specs.Fields.{NamedField, dword, hex, reference, flags, fields_joined}
use Rattle.acpi_base.specs.Look.{Part, flag}
use Rattle.acpi_base.specs.declared.error.Error.{Error}
use Rattle.acpi_base.specs.declared.error.Error.TheVariants.{Memory, FieldWidth}
use Rattle.acpi_base.specs.declared.oem.Oem.{Oem}
use Rattle.acpi_core.specs.Listing.{Listing, length_limit}
use Rattle.acpi_arm.specs.declared.iort.mapping.IdMapping.{IdMapping}
use Rattle.acpi_arm.specs.declared.iort.mapping.MemoryAccess.{MemoryAccess}
use Rattle.acpi_arm.specs.declared.iort.mapping.Output.{Output}
use Rattle.acpi_arm.specs.declared.iort.mapping.Output.TheVariants as outputs

-- A table of a revision without nodes. At offset 36: the number of nodes, of four bytes.
abbrev pub iort_of : ℕ → Oem → Listing
iort_of revision oem = record {
  signature = codes "IORT";
  revision = revision;
  oem = oem;
  before = [];
  count_width = 4;
  after = le 4 48 ++ zeros 4;  -- 40: offset of the first node; 44: reserved
  limit = length_limit;
  structures = [];
}

-- that of the revision of `new`
abbrev pub iort : Oem → Listing
iort oem = iort_of 5 oem

-- A list of a node has one more entry, which makes the node `more`. Or the call failed, and the node is unchanged. The error is
-- `FieldWidth` if there were as many entries as a node can have.
pub record Pushes {T N : Type 0} (result : Result T Error) (old more new : N) (count most : ℕ) : Type 0 where
  pub ok : OnOk result (new ≡ more)
  pub room : OnOk result (count < most)
  pub err : OnErr result (new ≡ old)
  pub cause : IfErr result (λ e. e ≢ Memory → (e ≡ FieldWidth) × (count ≡ most))

-- ---- ID mapping format

-- the offset of the node to which ids go
abbrev pub output_offset : Output → ℕ
output_offset (outputs.ItsGroup handle) = handle
output_offset (outputs.Smmu handle) = handle
output_offset (outputs.SmmuV3 handle) = handle

abbrev pub id_mapping : ℕ → ℕ → ℕ → Output → IdMapping
id_mapping input_base more_ids output_base output = record {
  input_base = input_base;
  more_ids = more_ids;
  output_base = output_base;
  output = output_offset output;
  flags = 0;
}

-- Flags of a mapping
abbrev pub id_mapping_bits : List Part
id_mapping_bits =
    flag 0x1 "Single Mapping"
    ∷ []

abbrev pub mapping_fields : IdMapping → List NamedField
mapping_fields m =
    hex dword "Input Base" m.input_base  -- 0
    ∷ dword "Number of IDs" m.more_ids  -- 4: one less than their number
    ∷ hex dword "Output Base" m.output_base  -- 8
    ∷ reference dword "Output Reference" m.output  -- 12
    ∷ flags id_mapping_bits dword "Flags" m.flags  -- 16
    ∷ []

abbrev pub mapping_bytes : IdMapping → List ℕ
mapping_bytes m = fields_joined (mapping_fields m)

-- ---- memory access properties

abbrev pub memory_access : MemoryAccess
memory_access = record { cache_coherent = 0; hints = 0; flags = 0 }

-- Allocation Hints
abbrev pub hint_bits : List Part
hint_bits =
    flag 0x1 "Transient"
    ∷ flag 0x2 "Write Allocate"
    ∷ flag 0x4 "Read Allocate"
    ∷ flag 0x8 "Allocation Hints Override"
    ∷ []

-- Memory Access Flags
abbrev pub access_bits : List Part
access_bits =
    flag 0x1 "Coherent Path to Memory"
    ∷ flag 0x2 "Device Attributes Cacheable and Inner Shareable"
    ∷ flag 0x4 "CANWBS"
    ∷ []
