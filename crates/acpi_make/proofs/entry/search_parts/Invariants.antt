use Rattle.acpi_make.specs.Entry.{part_entries}
use Rattle.acpi_make.proofs.Entries.{Unsearched}
use Rattle.acpi_make.proofs.entry.search_parts.Given as goal

abbrev pub invariant-parts : goal.invariant-parts
invariant-parts l = Unsearched part_entries l.parts l.part-index l.next l.number l.least l.line
