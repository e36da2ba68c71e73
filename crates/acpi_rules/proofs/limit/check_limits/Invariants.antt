use Rattle.std.proofs.Common.{◌≡◌, ◌++◌, map, drop}
use Rattle.std.specs.List.{flat_map}
use Rattle.acpi_rules.specs.Field.{seen}
use Rattle.acpi_rules.specs.Finding.{noted}
use Rattle.acpi_rules.specs.Rules.{allowed_by, limit_by, limit_findings}
use Rattle.acpi_rules.proofs.limit.check_limits.Given as goal

abbrev pub invariant-limits : goal.invariant-limits
invariant-limits l =
    map noted l.findings.items ++ flat_map (limit_findings (map allowed_by l.given.rows.now) l.table (seen l.field))
    (map limit_by (drop l.row-index l.ranges))
    ≡ map noted l.initial.findings.items
    ++ flat_map (limit_findings (map allowed_by l.given.rows.now) l.table (seen l.field)) (map limit_by l.ranges)
