use Rattle.std.proofs.Common.{◌≡◌, ◌+◌, ◌≤◌, drop}
use Rattle.acpi_make.specs.Inner.{count_titled}
use Rattle.acpi_make.proofs.inner.count_titled.Given as goal

abbrev pub invariant-marks : goal.invariant-marks
invariant-marks l = record {
  within : l.count ≤ l.mark-index;
  all : l.count + count_titled l.text l.forms (drop l.mark-index l.marks) ≡ count_titled l.text l.forms l.marks;
}
