use Rattle.std.proofs.Common.{◌≡◌, drop}
use Rattle.acpi_make.specs.Own.{references_own}
use Rattle.acpi_make.specs.Gives.{with_front}
use Rattle.acpi_make.proofs.own.push_references.Given as goal

abbrev pub invariant-marks : goal.invariant-marks
invariant-marks l = with_front l.owns.items (references_own l.text l.marks (drop l.mark-index l.marks)) ≡ with_front l.initial.owns.items (references_own l.text l.marks l.marks)
