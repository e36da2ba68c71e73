use Rattle.std.proofs.Common.{◌≡◌}
use Rattle.acpi_make.specs.Lack.{matrix_room}
use Rattle.acpi_make.proofs.lack.matrix_room.Given as goal

abbrev pub invariant-rows : goal.invariant-rows
invariant-rows l = matrix_room l.left l.more l.columns l.rows ≡ matrix_room l.size l.count l.columns l.rows

abbrev pub decreases-rows : goal.decreases-rows
decreases-rows l = l.more
