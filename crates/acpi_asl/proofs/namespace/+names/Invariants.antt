use Rattle.std.proofs.Common.{◌≡◌, ◌+◌, ◌*◌, ◌++◌, drop, string_bytes}
use Rattle.acpi_term.specs.Tree.{depth}
use Rattle.acpi_term.specs.View.{view, views, single}
use Rattle.acpi_asl.specs.Namespace.{names}
use Rattle.acpi_asl.proofs.namespace.+names.Given as goal

abbrev pub decreases-push_names : goal.decreases-push_names
decreases-push_names l = 2 * depth (views l.terms.now) + 1

abbrev pub decreases-push_term : goal.decreases-push_term
decreases-push_term l = 2 * depth (single (view l.term.now))

abbrev pub invariant-push_names-terms : goal.invariant-push_names-terms
invariant-push_names-terms l =
    string_bytes l.text ++ names l.depth (views (drop l.term-index l.terms)) ≡ string_bytes l.initial.text ++ names l.depth (views l.terms)
