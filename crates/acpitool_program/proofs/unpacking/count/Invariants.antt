use Rattle.std.proofs.Common.{◌≡◌, ◌≤◌, ◌+◌, drop, map}
use Rattle.acpitool_program.specs.Unpacking.{count}
use Rattle.acpitool_program.proofs.unpacking.count.Given as goal

abbrev pub invariant-tables : goal.invariant-tables
invariant-tables l = record {
  few : l.found ≤ l.table-index;
  so_far : l.found + count l.letters (map (λ table. table.now) (drop l.table-index l.tables)) ≡ count l.letters (map (λ table. table.now) l.tables);
}
