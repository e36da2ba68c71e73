use Rattle.std.proofs.Common.{◌≡◌, ◌++◌, drop}
use Rattle.acpi_make.specs.Own.{sizes_own}
use Rattle.acpi_make.proofs.own.push_sizes.Given as goal

abbrev pub invariant-marks : goal.invariant-marks
invariant-marks l = l.owns.items ++ sizes_own l.sizes (drop l.i l.marks) l.total ≡ l.initial.owns.items ++ sizes_own l.sizes l.marks l.total
