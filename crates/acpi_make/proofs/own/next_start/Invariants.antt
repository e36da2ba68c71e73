use Rattle.std.proofs.Common.{◌≡◌, drop}
use Rattle.acpi_make.specs.Own.{next_start}
use Rattle.acpi_make.proofs.own.next_start.Given as goal

abbrev pub invariant-marks : goal.invariant-marks
invariant-marks l = next_start (drop l.mark-index l.marks) l.total ≡ next_start l.marks l.total
