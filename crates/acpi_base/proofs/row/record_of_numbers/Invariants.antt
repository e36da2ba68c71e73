use Rattle.std.proofs.Common.{◌≡◌, take, length}
use Rattle.acpi_base.specs.Fields.{numbers_joined}
use Rattle.acpi_base.proofs.row.record_of_numbers.Given as goal

abbrev pub invariant-loop-i : goal.invariant-loop-i
invariant-loop-i g l = record {
  size : length l.bytes ≡ g.row.N;
  at : l.at ≡ length (numbers_joined (take l.i l.rows) (take l.i l.numbers));
  written : take l.at l.bytes ≡ numbers_joined (take l.i l.rows) (take l.i l.numbers);
}
