use Rattle.std.proofs.Common.{List, map}
use Rattle.acpi_term.specs.declared.term.TermEntry.{TermEntry}
use Rattle.acpi_term.specs.Row.{entries_bytes}
use Rattle.acpi_term.specs.View.{entry_view}
use Rattle.acpi_read.proofs.Sizes.{Sums}
use Rattle.acpi_read.proofs.report.size.entries_size.Given as goal

abbrev pub invariant-loop-entry : goal.invariant-loop-entry
invariant-loop-entry l = Sums (λ (entries : List TermEntry). entries_bytes (map entry_view entries)) l.entries l.entry-index l.size
