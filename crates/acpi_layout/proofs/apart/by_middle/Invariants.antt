use Rattle.std.proofs.Common.{◌≡◌, ◌++◌, drop}
use Rattle.acpi_layout.specs.Apart.{placed}
use Rattle.acpi_layout.proofs.apart.by_middle.Given as goal

abbrev pub invariant-tables : goal.invariant-tables
invariant-tables l = l.all.items ++ placed l.i (drop l.i l.tables) ≡ placed 0 l.tables
