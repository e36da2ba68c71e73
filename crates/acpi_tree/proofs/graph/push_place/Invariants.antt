use Rattle.std.proofs.Common.{◌≡◌, ◌++◌, drop}
use Rattle.acpi_tree.specs.Graph.{place_from}
use Rattle.acpi_tree.proofs.graph.push_place.Given as goal

abbrev pub invariant-nodes : goal.invariant-nodes
invariant-nodes l = record {
  place : l.place ≡ l.node-index;
  is : l.places.items ++ place_from l.place l.at (drop l.node-index l.nodes) ≡ l.initial.places.items ++ place_from 0 l.at l.nodes;
}
