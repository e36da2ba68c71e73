use Rattle.std.proofs.Common.{◌≡◌, ◌++◌, drop}
use Rattle.std.specs.List.{flat_map}
use Rattle.acpi_tree.specs.Graph.{edge_targets}
use Rattle.acpi_tree.proofs.graph.targets_of.Given as goal

abbrev pub invariant-edges : goal.invariant-edges
invariant-edges l = l.places.items ++ flat_map (edge_targets l.nodes l.node) (drop l.edge-index l.edges) ≡ flat_map (edge_targets l.nodes l.node) l.edges
