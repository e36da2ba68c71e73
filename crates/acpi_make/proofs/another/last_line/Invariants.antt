use Rattle.std.proofs.Common.{◌≡◌, drop, None}
use Rattle.acpi_make.specs.Another.{last_line}
use Rattle.acpi_make.proofs.another.last_line.Given as goal

abbrev pub invariant-marks : goal.invariant-marks
invariant-marks l = last_line l.offset l.last (drop l.mark-index l.marks) ≡ last_line l.offset None l.marks
