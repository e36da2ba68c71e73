use Rattle.std.proofs.Common.{◌≡◌, drop}
use Rattle.acpi_make.specs.Lack.{lines_in, next_heading}
use Rattle.acpi_make.proofs.lack.next_heading.Given as goal

abbrev pub invariant-marks : goal.invariant-marks
invariant-marks l = next_heading (lines_in l.lines) (drop l.mark-index l.marks) ≡ next_heading (lines_in l.lines) l.marks
