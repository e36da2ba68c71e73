use Rattle.std.proofs.Common.{◌+◌, ◌*◌}
use Rattle.acpi_term.specs.Tree.{depth}
use Rattle.acpi_term.specs.View.{view, views, single}
use Rattle.test_rewrite.proofs.calls.+calls.Given as goal

abbrev pub decreases-add_all : goal.decreases-add_all
decreases-add_all l = 2 * depth (views l.terms.now) + 1

abbrev pub decreases-add : goal.decreases-add
decreases-add l = 2 * depth (single (view l.term.now))
