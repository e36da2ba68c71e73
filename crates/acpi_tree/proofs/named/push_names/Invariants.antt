use Rattle.std.proofs.Common.{◌≡◌, ◌++◌, map, drop}
use Rattle.acpi_rules.specs.Item.{item_by}
use Rattle.acpi_tree.specs.Named.{name_lines}
use Rattle.acpi_tree.proofs.named.push_names.Given as goal

abbrev pub invariant-items : goal.invariant-items
invariant-items l =
    l.text.items ++ name_lines l.depth l.node (map item_by (drop l.item-index l.items))
    ≡ l.initial.text.items ++ name_lines l.depth l.node (map item_by l.items)
