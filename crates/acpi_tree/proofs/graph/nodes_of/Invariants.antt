use Rattle.std.proofs.Common.{◌≡◌, ◌++◌, map, drop}
use Rattle.acpi_rules.specs.Item.{item_by}
use Rattle.acpi_tree.specs.Graph.{node_of}
use Rattle.acpi_tree.proofs.graph.nodes_of.Given as goal

abbrev pub invariant-items : goal.invariant-items
invariant-items l = l.nodes.items ++ map (node_of l.walk.kind) (map item_by (drop l.item-index l.item-items)) ≡ map (node_of l.walk.kind) (map item_by l.item-items)
