use Rattle.std.proofs.Common.{◌≡◌, drop}
use Rattle.acpi_make.specs.Lack.{lines_in, short_entry}
use Rattle.acpi_make.proofs.lack.short_entry.Given as goal

abbrev pub invariant-marks : goal.invariant-marks
invariant-marks l =
    short_entry (lines_in l.lines) l.name l.rows l.end (drop l.i l.marks)
    ≡ short_entry (lines_in l.lines) l.name l.rows l.end l.marks
