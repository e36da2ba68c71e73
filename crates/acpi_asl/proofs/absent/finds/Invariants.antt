use Rattle.std.proofs.Common.{◌≡◌, ◌/◌, length}
use Rattle.acpi_asl.specs.Absent.{finds}
use Rattle.acpi_asl.proofs.absent.finds.Given as goal

abbrev pub invariant-scopes : goal.invariant-scopes
invariant-scopes l =
    finds (length l.around / 4) l.known l.around l.segment ≡ finds (length l.scope / 4) l.known l.scope l.segment

abbrev pub decreases-scopes : goal.decreases-scopes
decreases-scopes l = length l.around
