use Rattle.std.proofs.Common.{◌≡◌, ◌++◌, drop}
use Rattle.acpi_tree.specs.Tree.{roots_from}
use Rattle.acpi_tree.proofs.tree.push_roots.Given as goal

abbrev pub invariant-nodes : goal.invariant-nodes
invariant-nodes l = record {
  place : l.place ≡ l.node-index;
  is : l.places.items ++ roots_from l.place l.edges (drop l.node-index l.nodes) ≡ l.initial.places.items ++ roots_from 0 l.edges l.nodes;
}
