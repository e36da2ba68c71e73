use Rattle.std.proofs.Common.{◌≡◌, ◌++◌, map, drop}
use Rattle.acpi_rules.specs.Item.{item_by}
use Rattle.acpi_tree.proofs.named.push_items.Given as goal

abbrev pub invariant-items : goal.invariant-items
invariant-items l = map item_by l.items.items ++ map item_by (drop l.item-index l.found) ≡ map item_by l.initial.items.items ++ map item_by l.found
