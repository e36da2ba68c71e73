use Rattle.std.proofs.Common.{◌≡◌, drop}
use Rattle.acpi_make.specs.Lack.{lines_in, entry_end}
use Rattle.acpi_make.proofs.lack.entry_end.Given as goal

abbrev pub invariant-marks : goal.invariant-marks
invariant-marks l =
    entry_end (lines_in l.lines) l.name l.end (drop l.mark-index l.marks)
    ≡ entry_end (lines_in l.lines) l.name l.end l.marks
