use Rattle.std.proofs.Common.{◌+◌, ◌*◌}
use Rattle.acpi_term.specs.Tree.{depth}
use Rattle.acpi_term.specs.View.{view, views, single}
use Rattle.test_rewrite.proofs.objects.+objects.Given as goal

abbrev pub decreases-push_objects : goal.decreases-push_objects
decreases-push_objects l = 2 * depth (views l.terms.now) + 1

abbrev pub decreases-object_of : goal.decreases-object_of
decreases-object_of l = 2 * depth (single (view l.term.now))
