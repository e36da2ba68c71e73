use Rattle.std.proofs.Common.{◌≡◌, ◌+◌, ◌≤◌, drop}
use Rattle.acpi_make.specs.Lack.{lines_within}
use Rattle.acpi_make.proofs.lack.lines_within.Given as goal

abbrev pub invariant-marks : goal.invariant-marks
invariant-marks l = record {
  within : l.count ≤ l.mark-index;
  all :
      l.count + lines_within l.text l.lists l.name (drop l.mark-index l.marks) ≡ lines_within l.text l.lists l.name l.marks;
}
