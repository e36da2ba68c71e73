use Rattle.std.proofs.Common.{◌+◌, ◌*◌, ◌++◌, string_bytes}
use Rattle.acpi_term.specs.Tree.{depth}
use Rattle.acpi_term.specs.View.{view, views, single}
use Rattle.acpi_asl.proofs.Walks.{Going}
use Rattle.acpi_asl.proofs.asl.+asl.Given as goal

abbrev pub decreases-push_any : goal.decreases-push_any
decreases-push_any l = 4 * depth (views l.terms.now) + 3

abbrev pub decreases-push_terms : goal.decreases-push_terms
decreases-push_terms l = 4 * depth (views l.terms.now) + 2

abbrev pub decreases-push_term : goal.decreases-push_term
decreases-push_term l = 4 * depth (single (view l.term.now)) + 1

abbrev pub decreases-push_whole : goal.decreases-push_whole
decreases-push_whole l = 4 * depth (views (l.parts.first.now ++ l.parts.others.now)) + 4

abbrev pub invariant-push_terms-loop-term : goal.invariant-push_terms-loop-term
invariant-push_terms-loop-term l = Going l.fn.place l.depth l.terms l.term-index l.left (string_bytes l.initial.text) (string_bytes l.text)
