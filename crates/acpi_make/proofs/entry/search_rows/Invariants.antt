use Rattle.acpi_make.specs.Entry.{row_entries}
use Rattle.acpi_make.proofs.Entries.{Unsearched}
use Rattle.acpi_make.proofs.entry.search_rows.Given as goal

abbrev pub invariant-rows : goal.invariant-rows
invariant-rows l = Unsearched row_entries l.rows l.row-index l.next l.number l.least l.line
