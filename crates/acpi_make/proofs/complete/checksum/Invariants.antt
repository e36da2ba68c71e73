use Rattle.std.proofs.Common.{◌≡◌, ◌+◌, ◌%◌, ◌<◌, drop}
use Rattle.acpi_make.specs.Complete.{known_sum}
use Rattle.acpi_make.proofs.complete.checksum.Given as goal

abbrev pub invariant-cells : goal.invariant-cells
invariant-cells l = record {
  small : l.left < 256;
  sum : (l.left + known_sum l.cells) % 256 ≡ known_sum (drop l.cell-index l.cells) % 256;
}
