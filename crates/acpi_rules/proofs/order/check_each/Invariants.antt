use Rattle.std.proofs.Common.{◌≡◌, ◌++◌, map, drop}
use Rattle.std.specs.List.{flat_map}
use Rattle.acpi_rules.specs.Demand.{demand_by}
use Rattle.acpi_rules.specs.Finding.{noted}
use Rattle.acpi_rules.specs.Item.{item_by}
use Rattle.acpi_rules.specs.Order.{number_findings}
use Rattle.acpi_rules.proofs.order.check_each.Given as goal

abbrev pub invariant-items : goal.invariant-items
invariant-items l =
    map noted l.findings.items ++ flat_map (number_findings (demand_by l.demand) l.section) (map item_by (drop l.item-index l.items))
    ≡ map noted l.initial.findings.items ++ flat_map (number_findings (demand_by l.demand) l.section) (map item_by l.items)
