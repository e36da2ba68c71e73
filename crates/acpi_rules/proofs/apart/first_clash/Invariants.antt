use Rattle.std.proofs.Common.{◌≡◌, map, drop}
use Rattle.acpi_rules.specs.Apart.{first_clash}
use Rattle.acpi_rules.specs.Demand.{demand_by}
use Rattle.acpi_rules.specs.Item.{item_by}
use Rattle.acpi_rules.proofs.apart.first_clash.Given as goal

abbrev pub invariant-items : goal.invariant-items
invariant-items l =
    first_clash (demand_by l.demand) (item_by l.one) (map item_by (drop l.item-index l.items))
    ≡ first_clash (demand_by l.demand) (item_by l.one) (map item_by l.items)
