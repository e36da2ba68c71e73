use Rattle.std.proofs.Common.{◌≡◌, ◌+◌, ◌*◌, drop}
use Rattle.acpi_term.specs.Tree.{depth}
use Rattle.acpi_term.specs.View.{view, views, single}
use Rattle.acpi_asl.specs.Absent.{all_found}
use Rattle.acpi_asl.proofs.absent.+found.Given as goal

abbrev pub decreases-are_found : goal.decreases-are_found
decreases-are_found l = 2 * depth (views l.terms.now) + 1

abbrev pub decreases-are_found_in : goal.decreases-are_found_in
decreases-are_found_in l = 2 * depth (single (view l.term.now))

abbrev pub invariant-are_found-loop-term : goal.invariant-are_found-loop-term
invariant-are_found-loop-term l = all_found l.known l.scope (views (drop l.term-index l.terms)) ≡ all_found l.known l.scope (views l.terms)
