-- The Extended System Description Table (ACPI 6.5, 5.2.8).
use Rattle.std.specs.Prelude.{List, [], ◌∷◌, codes}
use Rattle.acpi_base.specs.Fields.{NamedField, qword, hex}
use Rattle.acpi_base.specs.declared.oem.Oem.{Oem}
use Rattle.acpi_core.specs.Listing.{Listing, length_limit}
use Rattle.acpi_lists.specs.declared.xsdt.Entry.{Entry}

-- a table without entries; each entry is the address of a table, in eight bytes
abbrev pub xsdt : Oem → Listing
xsdt oem = record {
  signature = codes "XSDT";
  revision = 1;
  oem = oem;
  before = [];
  count_width = 0;
  after = [];
  limit = length_limit;
  structures = [];
}

-- the physical address of a table
abbrev pub entry_fields : Entry → List NamedField
entry_fields e = hex qword "Entry" e.address ∷ []
