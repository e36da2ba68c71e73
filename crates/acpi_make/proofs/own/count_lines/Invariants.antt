use Rattle.std.proofs.Common.{◌≡◌, ◌+◌, ◌≤◌, drop}
use Rattle.acpi_make.specs.Own.{count_lines}
use Rattle.acpi_make.proofs.own.count_lines.Given as goal

abbrev pub invariant-marks : goal.invariant-marks
invariant-marks l = record {
  within : l.count ≤ l.mark-index;
  all : l.count + count_lines l.text l.name (drop l.mark-index l.marks) ≡ count_lines l.text l.name l.marks;
}
