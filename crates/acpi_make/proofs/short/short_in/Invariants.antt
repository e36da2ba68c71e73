use Rattle.std.proofs.Common.{◌≡◌, drop}
use Rattle.acpi_make.specs.Short.{short_in}
use Rattle.acpi_make.specs.Source.{source_of}
use Rattle.acpi_make.proofs.short.short_in.Given as goal

abbrev pub invariant-marks : goal.invariant-marks
invariant-marks l =
    short_in (source_of l.source) l.place l.no_length l.cells (drop l.i l.marks)
    ≡ short_in (source_of l.source) l.place l.no_length l.cells l.marks
