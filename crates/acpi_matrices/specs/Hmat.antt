-- The Heterogeneous Memory Attribute Table (ACPI 6.5, 5.2.28).
use Rattle.std.specs.Prelude.{ℕ, List, [], ◌∷◌, codes}
use Rattle.acpi_base.specs.Fields.{NamedField, word, dword, preset, flags, reserved, fields_joined}
use Rattle.acpi_base.specs.Look.{Part, flag}
use Rattle.acpi_base.specs.Bytes.{zeros}
use Rattle.acpi_base.specs.declared.oem.Oem.{Oem}
use Rattle.acpi_core.specs.Listing.{Listing, length_limit}
use Rattle.acpi_matrices.specs.declared.hmat.MemoryProximityDomain.{MemoryProximityDomain}

-- a table of a revision without structures
abbrev pub hmat_of : ℕ → Oem → Listing
hmat_of revision oem = record {
  signature = codes "HMAT";
  revision = revision;
  oem = oem;
  before = zeros 4;  -- 36: reserved
  count_width = 0;
  after = [];
  limit = length_limit;
  structures = [];
}

-- that of the revision of `new`
abbrev pub hmat : Oem → Listing
hmat oem = hmat_of 1 oem

-- Flags of a proximity domain
abbrev pub proximity_bits : List Part
proximity_bits =
    flag 0x1 "Attached Initiator Valid"
    ∷ []

-- a memory with an initiator
abbrev pub proximity : ℕ → ℕ → MemoryProximityDomain
proximity initiator memory = record { flags = 1; initiator = initiator; memory = memory }

-- Memory Proximity Domain Attributes Structure (5.2.28.3)
abbrev pub proximity_fields : MemoryProximityDomain → List NamedField
proximity_fields m =
    preset word "Type" 0  -- 0
    ∷ reserved 2  -- 2
    ∷ preset dword "Length" 40  -- 4
    ∷ flags proximity_bits word "Flags" m.flags  -- 8
    ∷ reserved 2  -- 10
    ∷ dword "Proximity Domain for the Attached Initiator" m.initiator  -- 12
    ∷ dword "Proximity Domain for the Memory" m.memory  -- 16
    ∷ reserved 20  -- 20
    ∷ []

abbrev pub proximity_bytes : MemoryProximityDomain → List ℕ
proximity_bytes m = fields_joined (proximity_fields m)
