use Rattle.std.proofs.Common.{◌≡◌, ◌++◌, map, drop}
use Rattle.std.specs.List.{flat_map}
use Rattle.acpi_rules.specs.Demand.{relation_by}
use Rattle.acpi_tree.specs.Graph.{rule_edges}
use Rattle.acpi_tree.proofs.graph.push_rules.Given as goal

abbrev pub invariant-rows : goal.invariant-rows
invariant-rows l = l.edges.items ++ flat_map (rule_edges l.walk l.table) (map relation_by (drop l.row-index l.rows)) ≡ l.initial.edges.items ++ flat_map (rule_edges l.walk l.table) (map relation_by l.rows)
