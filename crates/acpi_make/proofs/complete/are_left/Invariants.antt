use Rattle.std.proofs.Common.{◌≡◌, ◌+◌, ◌≤◌, length}
use Rattle.acpi_make.specs.Complete.{are_left}
use Rattle.acpi_make.proofs.complete.are_left.Given as goal

abbrev pub invariant-cells : goal.invariant-cells
invariant-cells l = record {
  within : l.width + length l.rest ≤ l.left + length l.cells;
  same : are_left l.left l.rest ≡ are_left l.width l.cells;
}

abbrev pub decreases-cells : goal.decreases-cells
decreases-cells l = l.left
