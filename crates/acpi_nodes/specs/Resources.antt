-- The private caches of processors.
use Rattle.std.specs.Prelude.{ℕ}
use Rattle.acpi_base.specs.Bytes.{le}
use Rattle.acpi_core.specs.Entries.{Entries, no_entries, with_entry}

-- no caches
abbrev pub no_resources : Entries
no_resources = no_entries

-- the list with one more offset at the end, in four bytes
abbrev pub with_resource : Entries → ℕ → Entries
with_resource r offset = with_entry r (le 4 offset)
