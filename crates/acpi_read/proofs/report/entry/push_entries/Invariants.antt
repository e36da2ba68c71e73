use Rattle.std.proofs.Common.{List, map, string_bytes}
use Rattle.acpi_term.specs.declared.term.TermEntry.{TermEntry}
use Rattle.acpi_term.specs.View.{entry_view}
use Rattle.acpi_read.specs.Lines.{entry_lines}
use Rattle.acpi_read.proofs.Texts.{Goes}
use Rattle.acpi_read.proofs.report.entry.push_entries.Given as goal

abbrev pub invariant-loop-entry : goal.invariant-loop-entry
invariant-loop-entry l = Goes (λ (entries : List TermEntry). entry_lines l.depth (map entry_view entries)) l.entries l.entry-index (string_bytes l.initial.text) (string_bytes l.text)
