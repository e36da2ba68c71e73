use Rattle.std.proofs.Common.{◌≡◌, ◌+◌, ◌*◌, ◌++◌, drop, string_bytes}
use Rattle.acpi_term.specs.Tree.{depth}
use Rattle.acpi_term.specs.View.{view, views, single}
use Rattle.acpi_asl.specs.Objects.{objects}
use Rattle.acpi_asl.proofs.objects.+objects.Given as goal

abbrev pub decreases-push_objects : goal.decreases-push_objects
decreases-push_objects l = 2 * depth (views l.terms.now) + 1

abbrev pub decreases-push_term : goal.decreases-push_term
decreases-push_term l = 2 * depth (single (view l.term.now))

abbrev pub invariant-push_objects-terms : goal.invariant-push_objects-terms
invariant-push_objects-terms l =
    string_bytes l.text ++ objects l.scope (views (drop l.term-index l.terms)) ≡ string_bytes l.initial.text ++ objects l.scope (views l.terms)
