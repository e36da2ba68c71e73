-- The Hardware Error Source Table (ACPI 6.5, 18.3.2).
use Rattle.std.specs.Prelude.{ℕ, [], codes}
use Rattle.acpi_base.specs.declared.oem.Oem.{Oem}
use Rattle.acpi_core.specs.Listing.{Listing, length_limit}

-- A table of a revision without sources. At offset 36: Error Source Count, of four bytes.
abbrev pub hest_of : ℕ → Oem → Listing
hest_of revision oem = record {
  signature = codes "HEST";
  revision = revision;
  oem = oem;
  before = [];
  count_width = 4;
  after = [];
  limit = length_limit;
  structures = [];
}

-- that of the revision of `new`
abbrev pub hest : Oem → Listing
hest oem = hest_of 1 oem
