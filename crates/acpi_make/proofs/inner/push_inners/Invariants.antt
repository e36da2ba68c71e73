use Rattle.std.proofs.Common.{◌≡◌, ◌++◌, drop}
use Rattle.acpi_make.specs.Inner.{inners_own}
use Rattle.acpi_make.proofs.inner.push_inners.Given as goal

abbrev pub invariant-marks : goal.invariant-marks
invariant-marks l =
    l.owns.items ++ inners_own l.text l.lists (drop l.i l.marks) l.total ≡ l.initial.owns.items ++ inners_own l.text l.lists l.marks l.total
