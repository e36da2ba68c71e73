use Rattle.std.proofs.Common.{◌≡◌, drop}
use Rattle.acpi_make.specs.Short.{short_inners}
use Rattle.acpi_make.proofs.short.short_inners.Given as goal

abbrev pub invariant-marks : goal.invariant-marks
invariant-marks l = short_inners l.text l.lists l.cells (drop l.i l.marks) ≡ short_inners l.text l.lists l.cells l.marks
