use Rattle.std.proofs.Common.{◌≡◌, ◌++◌, [], drop}
use Rattle.acpi_tree.specs.Tree.{walk, visit_new}
use Rattle.acpi_tree.proofs.tree.tree_lines.Given as goal

abbrev pub invariant-places : goal.invariant-places
invariant-places l = l.lines.items ++ walk (visit_new l.nodes l.edges) l.lines.items (drop l.place-index l.place-items) ≡ walk (visit_new l.nodes l.edges) [] l.place-items
