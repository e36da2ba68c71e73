-- The memory mapped configuration space of PCI (PCI Firmware Specification 3.3, 4.1.2).
use Rattle.std.specs.Prelude.{ℕ, List, [], ◌∷◌, codes}
use Rattle.acpi_base.specs.Fields.{NamedField, byte, word, qword, hex, reserved, fields_joined}
use Rattle.acpi_base.specs.Bytes.{zeros}
use Rattle.acpi_base.specs.declared.oem.Oem.{Oem}
use Rattle.acpi_core.specs.Listing.{Listing, length_limit}
use Rattle.acpi_lists.specs.declared.mcfg.Ecam.{Ecam}

-- a table without entries
abbrev pub mcfg : Oem → Listing
mcfg oem = record {
  signature = codes "MCFG";
  revision = 1;
  oem = oem;
  before = zeros 8;  -- 36: reserved
  count_width = 0;
  after = [];
  limit = length_limit;
  structures = [];
}

abbrev pub ecam_fields : Ecam → List NamedField
ecam_fields e =
    hex qword "Base Address" e.base_addr  -- 0
    ∷ word "PCI Segment Group Number" e.segment  -- 8
    ∷ byte "Start Bus Number" e.start_bus  -- 10
    ∷ byte "End Bus Number" e.end_bus  -- 11
    ∷ reserved 4  -- 12
    ∷ []

-- the configuration space of a range of buses of a segment group
abbrev pub ecam_bytes : ℕ → ℕ → ℕ → ℕ → List ℕ
ecam_bytes base_addr segment start_bus end_bus =
    fields_joined (ecam_fields (record { base_addr = base_addr; segment = segment; start_bus = start_bus; end_bus = end_bus }))
