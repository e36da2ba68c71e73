use Rattle.std.proofs.Common.{◌≡◌, ◌/◌, length}
use Rattle.acpi_asl.specs.Absent.{made_around, known_after}
use Rattle.acpi_asl.proofs.absent.make_around.Given as goal

abbrev pub invariant-scopes : goal.invariant-scopes
invariant-scopes l =
    known_after l.known (made_around (length l.around / 4) l.around)
    ≡ known_after l.initial.known (made_around (length l.path / 4) l.path)

abbrev pub decreases-scopes : goal.decreases-scopes
decreases-scopes l = length l.around
