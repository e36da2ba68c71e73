use Rattle.std.proofs.Common.{◌≡◌, ◌++◌, map, drop}
use Rattle.acpi_rules.specs.Field.{seen}
use Rattle.acpi_rules.specs.Finding.{noted}
use Rattle.acpi_rules.specs.Rules.{allowed_by, limit_by, fields_findings}
use Rattle.acpi_rules.proofs.rules.fields_findings.Given as goal

abbrev pub invariant-fields : goal.invariant-fields
invariant-fields l =
    map noted l.findings.items ++ fields_findings (map allowed_by l.rows) (map limit_by l.ranges) l.table
    (map seen (drop l.field-index l.fields))
    ≡ fields_findings (map allowed_by l.rows) (map limit_by l.ranges) l.table (map seen l.fields)
