use Rattle.std.proofs.Common.{◌≡◌, ◌+◌, ◌<◌, ◌^◌, ◌++◌, length, map}
use Rattle.std.specs.List.{flat_map}
use Rattle.acpi_rules.specs.Demand.{spot_by}
use Rattle.acpi_rules.specs.Field.{structures_of}
use Rattle.acpi_rules.specs.Item.{item_by, structure_items}
use Rattle.acpi_rules.proofs.item.push_structures.Given as goal

abbrev pub invariant-structures : goal.invariant-structures
invariant-structures l = record {
  fits : l.at + length l.rest < 2 ^ 64;
  found : map item_by l.items.items
      ++ flat_map (structure_items l.among.of l.among (spot_by l.spot) l.walk.kind) (structures_of l.walk.sizes l.at l.rest)
      ≡ map item_by l.initial.items.items
      ++ flat_map (structure_items l.among.of l.among (spot_by l.spot) l.walk.kind) (structures_of l.walk.sizes l.start l.bytes);
}

abbrev pub decreases-structures : goal.decreases-structures
decreases-structures l = length l.rest
