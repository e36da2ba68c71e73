use Rattle.std.proofs.Common.{◌≡◌, ◌++◌, map, drop}
use Rattle.acpi_rules.specs.Item.{item_by}
use Rattle.acpi_rules.proofs.reference.push_offsets.Given as goal

abbrev pub invariant-items : goal.invariant-items
invariant-items l =
    l.numbers.items ++ map (λ item. item.field.offset) (map item_by (drop l.item-index l.items))
    ≡ l.initial.numbers.items ++ map (λ item. item.field.offset) (map item_by l.items)
