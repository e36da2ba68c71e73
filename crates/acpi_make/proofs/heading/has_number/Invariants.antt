use Rattle.std.proofs.Common.{◌≡◌}
use Rattle.acpi_make.specs.Heading.{has_number}
use Rattle.acpi_make.proofs.heading.has_number.Given as goal

abbrev pub invariant-bytes : goal.invariant-bytes
invariant-bytes l = has_number l.left l.number_left l.cells_left ≡ has_number l.width l.number l.cells

abbrev pub decreases-bytes : goal.decreases-bytes
decreases-bytes l = l.left
