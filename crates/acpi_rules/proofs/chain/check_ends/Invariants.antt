use Rattle.std.proofs.Common.{◌≡◌, ◌++◌, map, drop}
use Rattle.std.specs.List.{flat_map}
use Rattle.acpi_rules.specs.Chain.{end_findings}
use Rattle.acpi_rules.specs.Finding.{noted}
use Rattle.acpi_rules.specs.Item.{item_by}
use Rattle.acpi_rules.proofs.chain.check_ends.Given as goal

abbrev pub invariant-parts : goal.invariant-parts
invariant-parts l =
    map noted l.findings.items
    ++ flat_map (end_findings l.at l.section (map item_by l.parts) l.next) (map item_by (drop l.part-index l.parts))
    ≡ map noted l.initial.findings.items
    ++ flat_map (end_findings l.at l.section (map item_by l.parts) l.next) (map item_by l.parts)
