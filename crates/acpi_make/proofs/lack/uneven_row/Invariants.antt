use Rattle.std.proofs.Common.{◌≡◌, drop}
use Rattle.acpi_make.specs.Lack.{lines_in, uneven_row}
use Rattle.acpi_make.proofs.lack.uneven_row.Given as goal

abbrev pub invariant-marks : goal.invariant-marks
invariant-marks l =
    uneven_row (lines_in l.lines) l.name l.size (drop l.i l.marks) ≡ uneven_row (lines_in l.lines) l.name l.size l.marks
