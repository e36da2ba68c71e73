use Rattle.std.proofs.Common.{◌≡◌, ◌++◌, drop}
use Rattle.acpi_make.specs.Notes.{untrue}
use Rattle.acpi_make.proofs.notes.untrue.Given as goal

abbrev pub invariant-owns : goal.invariant-owns
invariant-owns l = l.list.items ++ untrue (drop l.own-index l.owns) l.bytes ≡ untrue l.owns l.bytes
