use Rattle.std.proofs.Common.{◌≡◌, ◌+◌, map, drop}
use Rattle.acpi_rules.specs.Chain.{place_from}
use Rattle.acpi_rules.specs.Item.{item_by}
use Rattle.acpi_rules.proofs.chain.place_of.Given as goal

abbrev pub invariant-parts : goal.invariant-parts
invariant-parts l = record {
  place : l.place ≡ l.part-index + 1;
  is : place_from l.place l.at l.start (map item_by (drop l.part-index l.parts))
      ≡ place_from 1 l.at l.start (map item_by l.parts);
}
