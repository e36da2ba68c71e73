use Rattle.std.proofs.Common.{◌≡◌, ◌+◌, ◌≤◌, map, drop}
use Rattle.acpi_rules.specs.Single.{namesakes}
use Rattle.acpi_rules.proofs.single.namesakes.Given as goal

abbrev pub invariant-tables : goal.invariant-tables
invariant-tables l = record {
  fits : l.number ≤ l.table-index;
  is : l.number + namesakes (map (λ table. table.now) (drop l.table-index l.tables)) l.signature
      ≡ namesakes (map (λ table. table.now) l.tables) l.signature;
}
