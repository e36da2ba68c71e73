use Rattle.std.proofs.Common.{◌≡◌, ◌++◌, map, drop}
use Rattle.std.specs.List.{flat_map}
use Rattle.acpi_base.specs.Look.{bits_of}
use Rattle.acpi_rules.specs.Field.{seen}
use Rattle.acpi_rules.specs.Finding.{noted}
use Rattle.acpi_rules.specs.Rules.{allowed_by, any_allows, part_findings}
use Rattle.acpi_rules.proofs.rules.check_parts.Given as goal

abbrev pub invariant-parts : goal.invariant-parts
invariant-parts l =
    map noted l.findings.items ++ flat_map
    (part_findings (any_allows (map allowed_by l.given.rows.now) l.given.signature.now (seen l.field))
    (seen l.field)) (bits_of (drop l.part-index l.parts))
    ≡ map noted l.initial.findings.items
    ++ flat_map (part_findings (any_allows (map allowed_by l.given.rows.now) l.given.signature.now (seen l.field))
    (seen l.field)) (bits_of l.parts)
