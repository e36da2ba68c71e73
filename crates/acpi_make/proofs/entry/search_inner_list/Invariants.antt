use Rattle.acpi_make.specs.Entry.{inner_form_entries}
use Rattle.acpi_make.proofs.Entries.{Unsearched}
use Rattle.acpi_make.proofs.entry.search_inner_list.Given as goal

abbrev pub invariant-forms : goal.invariant-forms
invariant-forms l = Unsearched inner_form_entries l.list.forms.now l.form-index l.next l.number l.least l.line
