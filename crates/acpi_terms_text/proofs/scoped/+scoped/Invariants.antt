use Rattle.std.proofs.Common.{◌+◌, ◌*◌, map}
use Rattle.acpi_term.specs.Tree.{depth}
use Rattle.acpi_term.specs.View.{view, views, single}
use Rattle.acpi_terms_text.specs.Objects.{callee_by}
use Rattle.acpi_terms_text.proofs.Scopes.{AreDone}
use Rattle.acpi_terms_text.proofs.scoped.+scoped.Given as goal

abbrev pub decreases-scoped_terms : goal.decreases-scoped_terms
decreases-scoped_terms l = 2 * depth (views l.terms.items) + 1

abbrev pub decreases-scoped_term : goal.decreases-scoped_term
decreases-scoped_term l = 2 * depth (single (view l.term))

abbrev pub decreases-scoped_box : goal.decreases-scoped_box
decreases-scoped_box l = 2 * depth (single (view l.term.value)) + 1

abbrev pub invariant-scoped_terms-loop-term : goal.invariant-scoped_terms-loop-term
invariant-scoped_terms-loop-term l =
    AreDone l.numbers.stated.now (map callee_by l.numbers.objects.now) (map callee_by l.numbers.differing.now) l.numbers.own.now l.scope l.term-index l.fn.terms.items l.term-items
