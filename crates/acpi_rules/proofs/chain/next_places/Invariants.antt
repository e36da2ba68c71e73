use Rattle.std.proofs.Common.{◌≡◌, ◌++◌, map, drop}
use Rattle.acpi_rules.specs.Chain.{next_place, next_places}
use Rattle.acpi_rules.specs.Item.{item_by}
use Rattle.acpi_rules.proofs.chain.next_places.Given as goal

abbrev pub invariant-parts : goal.invariant-parts
invariant-parts l =
    l.next.items ++ map (next_place l.at (map item_by l.parts)) (map item_by (drop l.part-index l.parts))
    ≡ next_places l.at (map item_by l.parts)
