use Rattle.std.proofs.Common.{◌≡◌, ◌++◌, map, drop}
use Rattle.acpi_rules.specs.Across.{whole_number}
use Rattle.acpi_rules.specs.Demand.{spot_by}
use Rattle.acpi_rules.specs.Item.{item_by}
use Rattle.acpi_rules.proofs.across.push_wholes.Given as goal

abbrev pub invariant-items : goal.invariant-items
invariant-items l =
    l.numbers.items ++ map (whole_number (spot_by l.high)) (map item_by (drop l.item-index l.items))
    ≡ l.initial.numbers.items ++ map (whole_number (spot_by l.high)) (map item_by l.items)
