use Rattle.std.proofs.Common.{◌≡◌, ◌+◌, ◌≤◌, length}
use Rattle.acpi_make.specs.Complete.{written}
use Rattle.acpi_make.proofs.complete.write.Given as goal

abbrev pub invariant-bytes : goal.invariant-bytes
invariant-bytes l = record {
  within : l.at + l.left ≤ length l.cells;
  same : written l.at l.left l.rest l.cells ≡ written l.offset l.width l.number l.fn.cells;
}

abbrev pub decreases-bytes : goal.decreases-bytes
decreases-bytes l = l.left
