use Rattle.acpi_make.specs.Entry.{choice_entries}
use Rattle.acpi_make.proofs.Entries.{Unsearched}
use Rattle.acpi_make.proofs.entry.search_choices.Given as goal

abbrev pub invariant-choices : goal.invariant-choices
invariant-choices l = Unsearched choice_entries l.choices l.choice-index l.next l.number l.least l.line
