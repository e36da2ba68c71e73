use Rattle.std.proofs.Common.{◌≡◌, ◌++◌, map, drop}
use Rattle.std.specs.List.{flat_map}
use Rattle.acpi_rules.specs.Item.{item_by}
use Rattle.acpi_rules.specs.Link.{link_by}
use Rattle.acpi_tree.specs.Named.{link_items}
use Rattle.acpi_tree.proofs.named.push_links.Given as goal

abbrev pub invariant-links : goal.invariant-links
invariant-links l =
    map item_by l.items.items ++ flat_map (link_items l.table) (map link_by (drop l.link-index l.links))
    ≡ map item_by l.initial.items.items ++ flat_map (link_items l.table) (map link_by l.links)
