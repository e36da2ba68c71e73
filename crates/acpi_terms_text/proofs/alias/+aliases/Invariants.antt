use Rattle.std.proofs.Common.{◌+◌, ◌*◌, List, map}
use Rattle.acpi_term.specs.declared.term.Term.{Term}
use Rattle.acpi_term.specs.Tree.{depth}
use Rattle.acpi_term.specs.View.{view, views, single}
use Rattle.acpi_terms_text.specs.Objects.{alias_by, aliases}
use Rattle.acpi_terms_text.proofs.Runs.{Runs}
use Rattle.acpi_terms_text.proofs.alias.+aliases.Given as goal

abbrev pub decreases-push_terms : goal.decreases-push_terms
decreases-push_terms l = 2 * depth (views l.terms.now) + 1

abbrev pub decreases-push_term : goal.decreases-push_term
decreases-push_term l = 2 * depth (single (view l.term.now))

abbrev pub invariant-push_terms-loop-term : goal.invariant-push_terms-loop-term
invariant-push_terms-loop-term l = Runs (λ (terms : List Term). aliases l.scope (views terms)) l.terms l.term-index (map alias_by l.initial.all.items) (map alias_by l.all.items)
