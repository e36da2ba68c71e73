use Rattle.std.proofs.Common.{◌≡◌, ◌+◌, ◌≤◌, map, drop}
use Rattle.acpi_rules.specs.Single.{copies}
use Rattle.acpi_rules.proofs.single.copies.Given as goal

abbrev pub invariant-tables : goal.invariant-tables
invariant-tables l = record {
  fits : l.number ≤ l.table-index;
  is : l.number + copies (map (λ table. table.now) (drop l.table-index l.tables)) l.bytes
      ≡ copies (map (λ table. table.now) l.tables) l.bytes;
}
