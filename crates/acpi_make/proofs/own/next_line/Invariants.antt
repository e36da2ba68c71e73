use Rattle.std.proofs.Common.{◌≡◌, drop}
use Rattle.acpi_make.specs.Own.{next_line}
use Rattle.acpi_make.proofs.own.next_line.Given as goal

abbrev pub invariant-marks : goal.invariant-marks
invariant-marks l = next_line (drop l.mark-index l.marks) l.total ≡ next_line l.marks l.total
