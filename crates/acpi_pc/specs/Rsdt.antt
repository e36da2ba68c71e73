-- The Root System Description Table (ACPI 6.5, 5.2.7).
use Rattle.std.specs.Prelude.{List, [], ◌∷◌, codes}
use Rattle.acpi_base.specs.Fields.{NamedField, dword, hex}
use Rattle.acpi_base.specs.declared.oem.Oem.{Oem}
use Rattle.acpi_core.specs.Listing.{Listing, length_limit}
use Rattle.acpi_pc.specs.declared.rsdt.Entry.{Entry}

-- a table without entries
abbrev pub rsdt : Oem → Listing
rsdt oem = record {
  signature = codes "RSDT";
  revision = 1;
  oem = oem;
  before = [];
  count_width = 0;
  after = [];
  limit = length_limit;
  structures = [];
}

-- an entry: the physical address of a table
abbrev pub entry_fields : Entry → List NamedField
entry_fields e = hex dword "Entry" e.address ∷ []
