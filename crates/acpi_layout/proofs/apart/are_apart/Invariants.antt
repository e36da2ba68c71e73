use Rattle.std.specs.List.{AllAdjacentBelow}
use Rattle.acpi_layout.proofs.Middles.{Before}
use Rattle.acpi_layout.proofs.apart.are_apart.Given as goal

abbrev pub invariant-all : goal.invariant-all
invariant-all l = AllAdjacentBelow Before l.all.items l.i
