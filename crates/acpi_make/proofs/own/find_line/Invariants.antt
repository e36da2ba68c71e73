use Rattle.std.proofs.Common.{◌≡◌, drop}
use Rattle.acpi_make.specs.Own.{find_line}
use Rattle.acpi_make.proofs.own.find_line.Given as goal

abbrev pub invariant-marks : goal.invariant-marks
invariant-marks l = find_line l.text l.name (drop l.i l.marks) l.total ≡ find_line l.text l.name l.marks l.total
