use Rattle.std.proofs.Common.{◌≡◌, drop}
use Rattle.acpi_make.specs.Compare.{no_bytes, differ}
use Rattle.acpi_make.specs.Range.{range_of}
use Rattle.acpi_make.specs.Source.{source_of}
use Rattle.acpi_make.proofs.compare.differ.Given as goal

abbrev pub invariant-marks : goal.invariant-marks
invariant-marks l =
    differ (source_of l.source) (source_of l.shown) l.size (range_of l.covered) (drop l.i l.marks) l.rest
    ≡ differ (source_of l.source) (source_of l.shown) l.size no_bytes l.marks l.others
