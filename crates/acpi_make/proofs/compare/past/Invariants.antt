use Rattle.std.proofs.Common.{◌≡◌, length}
use Rattle.acpi_make.specs.Compare.{past}
use Rattle.acpi_make.specs.Range.{range_of}
use Rattle.acpi_make.specs.Source.{source_of}
use Rattle.acpi_make.proofs.compare.past.Given as goal

abbrev pub invariant-marks : goal.invariant-marks
invariant-marks l =
    past (source_of l.source) (source_of l.shown) l.one (range_of l.covered) l.rest
    ≡ past (source_of l.source) (source_of l.shown) l.one (range_of l.covered) l.others

abbrev pub decreases-marks : goal.decreases-marks
decreases-marks l = length l.rest
