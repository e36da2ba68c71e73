use Rattle.std.proofs.Common.{◌≡◌, ◌++◌, map, drop}
use Rattle.acpi_rules.specs.Demand.{relation_by}
use Rattle.acpi_rules.specs.Finding.{noted}
use Rattle.acpi_rules.specs.Relation.{relations_findings}
use Rattle.acpi_rules.proofs.relation.check_relations.Given as goal

abbrev pub invariant-rows : goal.invariant-rows
invariant-rows l =
    map noted l.findings.items ++ relations_findings (map relation_by (drop l.row-index l.rows)) l.walk l.table
    ≡ map noted l.initial.findings.items ++ relations_findings (map relation_by l.rows) l.walk l.table
