use Rattle.std.proofs.Common.{◌≡◌, drop}
use Rattle.acpi_make.specs.Complete.{all_filled}
use Rattle.acpi_make.proofs.complete.fill_all.Given as goal

abbrev pub invariant-owns : goal.invariant-owns
invariant-owns l = all_filled (drop l.own-index l.owns) l.cells ≡ all_filled l.owns l.initial.cells
