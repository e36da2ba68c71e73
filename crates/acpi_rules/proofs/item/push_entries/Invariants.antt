use Rattle.std.proofs.Common.{◌≡◌, ◌+◌, ◌<◌, ◌^◌, ◌++◌, length, map}
use Rattle.std.specs.List.{flat_map}
use Rattle.acpi_rules.specs.Demand.{spot_by}
use Rattle.acpi_rules.specs.Item.{item_by, part_items, entries}
use Rattle.acpi_rules.proofs.item.push_entries.Given as goal

abbrev pub invariant-entries : goal.invariant-entries
invariant-entries l = record {
  fits : l.at + length l.rest < 2 ^ 64;
  found : map item_by l.items.items ++ flat_map (part_items l.among (spot_by l.spot)) (entries l.left l.size l.at l.rest)
      ≡ map item_by l.initial.items.items
      ++ flat_map (part_items l.among (spot_by l.spot)) (entries l.count l.size l.start l.bytes);
}

abbrev pub decreases-entries : goal.decreases-entries
decreases-entries l = l.left
