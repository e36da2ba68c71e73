use Rattle.std.proofs.Common.{◌≡◌, nat_le}
use Rattle.acpi_make.specs.Heading.{known_front}
use Rattle.acpi_make.proofs.heading.are_known.Given as goal

abbrev pub invariant-bytes : goal.invariant-bytes
invariant-bytes l = nat_le l.left (known_front l.cells_left) ≡ nat_le l.width (known_front l.cells)

abbrev pub decreases-bytes : goal.decreases-bytes
decreases-bytes l = l.left
