use Rattle.std.proofs.Common.{◌≡◌, ◌++◌, drop, map}
use Rattle.acpi_c_calls.specs.Notes.{note}
use Rattle.acpi_c_calls.proofs.notes.notes_of.Given as goal

abbrev pub invariant-owns : goal.invariant-owns
invariant-owns l = l.notes.items ++ map note (drop l.own-index l.owns) ≡ map note l.owns
