use Rattle.std.proofs.Common.{◌≡◌, ◌++◌, drop}
use Rattle.acpi_tree.specs.Tree.{places_from}
use Rattle.acpi_tree.proofs.tree.push_places.Given as goal

abbrev pub invariant-nodes : goal.invariant-nodes
invariant-nodes l = record {
  place : l.place ≡ l.index;
  is : l.places.items ++ places_from l.place (drop l.index l.nodes) ≡ l.initial.places.items ++ places_from 0 l.nodes;
}
