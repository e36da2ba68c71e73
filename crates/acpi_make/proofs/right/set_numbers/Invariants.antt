use Rattle.std.proofs.Common.{◌≡◌, drop}
use Rattle.acpi_make.specs.Right.{with_numbers}
use Rattle.acpi_make.proofs.right.set_numbers.Given as goal

abbrev pub invariant-owns : goal.invariant-owns
invariant-owns l = with_numbers (drop l.own-index l.owns) l.bytes ≡ with_numbers l.owns l.initial.bytes
