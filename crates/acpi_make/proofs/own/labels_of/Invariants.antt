use Rattle.std.proofs.Common.{◌≤◌, length, drop}
use Rattle.acpi_make.specs.Own.{AreLabels}
use Rattle.acpi_make.proofs.own.labels_of.Given as goal

abbrev pub invariant-marks : goal.invariant-marks
invariant-marks l = record { within : l.left ≤ length l.marks; labels : AreLabels l.labels l.text (drop l.left l.marks) }

abbrev pub decreases-marks : goal.decreases-marks
decreases-marks l = l.left
