use Rattle.std.proofs.Common.{◌≡◌, ◌+◌, ◌≤◌, drop}
use Rattle.acpi_make.specs.Own.{count_structures}
use Rattle.acpi_make.proofs.own.count_structures.Given as goal

abbrev pub invariant-marks : goal.invariant-marks
invariant-marks l = record {
  within : l.count ≤ l.mark-index;
  all : l.count + count_structures (drop l.mark-index l.marks) ≡ count_structures l.marks;
}
