use Rattle.std.proofs.Common.{◌≡◌, ◌++◌, drop}
use Rattle.std.specs.List.{flat_map}
use Rattle.acpi_tree.specs.Dot.{node_dot}
use Rattle.acpi_tree.proofs.dot.push_nodes.Given as goal

abbrev pub invariant-nodes : goal.invariant-nodes
invariant-nodes l = l.text.items ++ flat_map (node_dot l.nodes l.edges) (drop l.node-index l.all) ≡ l.initial.text.items ++ flat_map (node_dot l.nodes l.edges) l.all
