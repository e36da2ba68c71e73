use Rattle.std.proofs.Common.{◌≡◌, drop}
use Rattle.acpi_tree.specs.Graph.{is_target}
use Rattle.acpi_tree.proofs.graph.is_target.Given as goal

abbrev pub invariant-edges : goal.invariant-edges
invariant-edges l = is_target (drop l.edge-index l.edges) l.at ≡ is_target l.edges l.at
