use Rattle.std.proofs.Common.{◌≡◌, map, drop}
use Rattle.acpi_rules.specs.Field.{seen}
use Rattle.acpi_rules.specs.Rules.{allowed_by, any_allows}
use Rattle.acpi_rules.proofs.allowed.any_allows.Given as goal

abbrev pub invariant-rows : goal.invariant-rows
invariant-rows l =
    any_allows (map allowed_by (drop l.row-index l.rows)) l.signature (seen l.field) l.number
    ≡ any_allows (map allowed_by l.rows) l.signature (seen l.field) l.number
