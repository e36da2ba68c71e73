use Rattle.std.proofs.Common.{◌≡◌, drop}
use Rattle.acpi_make.specs.Inner.{next_titled}
use Rattle.acpi_make.proofs.inner.next_titled.Given as goal

abbrev pub invariant-marks : goal.invariant-marks
invariant-marks l = next_titled l.text l.lists (drop l.mark-index l.marks) l.total ≡ next_titled l.text l.lists l.marks l.total
