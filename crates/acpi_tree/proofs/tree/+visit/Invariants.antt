use Rattle.std.proofs.Common.{◌≡◌, ◌+◌, ◌*◌, ◌++◌, drop}
use Rattle.acpi_tree.specs.Tree.{walk, visit}
use Rattle.acpi_tree.proofs.tree.+visit.Given as goal

abbrev pub decreases-visit : goal.decreases-visit
decreases-visit l = 2 * l.levels

abbrev pub decreases-visit_all : goal.decreases-visit_all
decreases-visit_all l = 2 * l.levels + 1

abbrev pub invariant-visit_all-places : goal.invariant-visit_all-places
invariant-visit_all-places l =
    l.lines.items ++ walk (visit l.nodes l.edges l.levels l.depth) l.lines.items (drop l.place-index l.places)
    ≡ l.initial.lines.items ++ walk (visit l.nodes l.edges l.levels l.depth) l.initial.lines.items l.places
