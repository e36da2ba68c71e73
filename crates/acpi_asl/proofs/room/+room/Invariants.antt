use Rattle.std.proofs.Common.{◌≡◌, ◌+◌, ◌-◌, ◌*◌, ◌++◌, drop, length}
use Rattle.acpi_term.specs.Spelling.{spelling}
use Rattle.acpi_term.specs.Tree.{depth}
use Rattle.acpi_term.specs.View.{view, views, single}
use Rattle.acpi_asl.proofs.room.+room.Given as goal

abbrev pub decreases-after_content : goal.decreases-after_content
decreases-after_content l = 3 * (1 + depth (views (l.parts.first.now ++ l.parts.others.now)))

abbrev pub decreases-after_term : goal.decreases-after_term
decreases-after_term l = 3 * depth (single (view l.term.now)) + 1

abbrev pub decreases-after_terms : goal.decreases-after_terms
decreases-after_terms l = 3 * depth (views l.terms.now) + 2

abbrev pub invariant-after_terms-terms : goal.invariant-after_terms-terms
invariant-after_terms-terms l =
    l.left - length (spelling (views (drop l.term-index l.terms))) ≡ l.fn.room - length (spelling (views l.terms))
