use Rattle.acpi_make.specs.Entry.{inner_list_entries}
use Rattle.acpi_make.proofs.Entries.{Unsearched}
use Rattle.acpi_make.proofs.entry.search_inner_lists.Given as goal

abbrev pub invariant-lists : goal.invariant-lists
invariant-lists l = Unsearched inner_list_entries l.lists l.list-index l.next l.number l.least l.line
