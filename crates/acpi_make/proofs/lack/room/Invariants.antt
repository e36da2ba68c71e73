use Rattle.std.proofs.Common.{◌≡◌, drop}
use Rattle.acpi_make.specs.Lack.{room}
use Rattle.acpi_make.proofs.lack.room.Given as goal

abbrev pub invariant-rows : goal.invariant-rows
invariant-rows l = room l.left (drop l.row-index l.rows) ≡ room l.size l.rows
