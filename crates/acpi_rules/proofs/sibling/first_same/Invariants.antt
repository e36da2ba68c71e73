use Rattle.std.proofs.Common.{◌≡◌, map, drop}
use Rattle.acpi_rules.specs.Item.{item_by}
use Rattle.acpi_rules.specs.Sibling.{first_same}
use Rattle.acpi_rules.proofs.sibling.first_same.Given as goal

abbrev pub invariant-items : goal.invariant-items
invariant-items l =
    first_same l.own (item_by l.one) (map item_by (drop l.item-index l.items))
    ≡ first_same l.own (item_by l.one) (map item_by l.items)
