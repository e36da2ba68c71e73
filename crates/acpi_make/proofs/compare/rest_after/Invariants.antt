use Rattle.std.proofs.Common.{◌≡◌, length}
use Rattle.acpi_make.specs.Compare.{rest_after}
use Rattle.acpi_make.specs.Range.{range_of}
use Rattle.acpi_make.proofs.compare.rest_after.Given as goal

abbrev pub invariant-marks : goal.invariant-marks
invariant-marks l = rest_after (range_of l.covered) l.rest ≡ rest_after (range_of l.covered) l.others

abbrev pub decreases-marks : goal.decreases-marks
decreases-marks l = length l.rest
