use Rattle.std.proofs.Common.{◌≡◌, ◌++◌, map, drop}
use Rattle.acpi_rules.specs.Item.{item_by}
use Rattle.acpi_tree.specs.Graph.{edge_of}
use Rattle.acpi_tree.proofs.graph.push_edges.Given as goal

abbrev pub invariant-items : goal.invariant-items
invariant-items l = l.edges.items ++ map edge_of (map item_by (drop l.item-index l.items)) ≡ l.initial.edges.items ++ map edge_of (map item_by l.items)
