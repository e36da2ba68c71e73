use Rattle.std.proofs.Common.{◌≡◌, ◌++◌, map, drop}
use Rattle.std.specs.List.{flat_map}
use Rattle.acpi_rules.specs.Across.{defined_findings}
use Rattle.acpi_rules.specs.Finding.{noted}
use Rattle.acpi_rules.specs.Item.{item_by}
use Rattle.acpi_rules.specs.Link.{link_by}
use Rattle.acpi_rules.proofs.across.check_all_defined.Given as goal

abbrev pub invariant-items : goal.invariant-items
invariant-items l =
    map noted l.findings.items
    ++ flat_map (defined_findings (link_by l.link) l.numbers) (map item_by (drop l.item-index l.items))
    ≡ map noted l.initial.findings.items ++ flat_map (defined_findings (link_by l.link) l.numbers) (map item_by l.items)
