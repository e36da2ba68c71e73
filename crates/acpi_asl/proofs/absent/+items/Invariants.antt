use Rattle.std.proofs.Common.{◌≡◌, ◌+◌, ◌*◌, drop, string_bytes}
use Rattle.acpi_term.specs.Tree.{depth}
use Rattle.acpi_term.specs.View.{view, views, single}
use Rattle.acpi_asl.specs.Absent.{items, left_after}
use Rattle.acpi_asl.proofs.Absents.{Going}
use Rattle.acpi_asl.proofs.absent.+items.Given as goal

abbrev pub decreases-push_items : goal.decreases-push_items
decreases-push_items l = 2 * depth (views l.terms.now) + 1

abbrev pub decreases-push_items_of : goal.decreases-push_items_of
decreases-push_items_of l = 2 * depth (single (view l.term.now))

abbrev pub invariant-push_items-loop-term : goal.invariant-push_items-loop-term
invariant-push_items-loop-term l =
    Going (items l.pass l.left l.scope (views (drop l.term-index l.terms))) (items l.pass l.fn.place l.scope (views l.terms))
    l.initial.known l.known (string_bytes l.initial.text) (string_bytes l.text)
    × (left_after l.left (views (drop l.term-index l.terms)) ≡ left_after l.fn.place (views l.terms))
