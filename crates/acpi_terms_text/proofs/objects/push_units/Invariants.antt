use Rattle.std.proofs.Common.{List, map}
use Rattle.acpi_term.specs.View.{entry_view}
use Rattle.acpi_term.specs.declared.term.TermEntry.{TermEntry}
use Rattle.acpi_terms_text.specs.Objects.{callee_by, own_units, all_kept}
use Rattle.acpi_terms_text.proofs.Runs.{Runs}
use Rattle.acpi_terms_text.proofs.objects.push_units.Given as goal

abbrev pub invariant-entries : goal.invariant-entries
invariant-entries l =
    Runs (λ (entries : List TermEntry). all_kept l.kept (own_units l.scope (map entry_view entries))) l.entries l.entry-index (map callee_by l.initial.all.items) (map callee_by l.all.items)
