use Rattle.std.proofs.Common.{◌≡◌}
use Rattle.acpi_make.specs.Lack.{entries_room}
use Rattle.acpi_make.proofs.lack.entries_room.Given as goal

abbrev pub invariant-entries : goal.invariant-entries
invariant-entries l = entries_room l.left l.more l.rows ≡ entries_room l.size l.count l.rows

abbrev pub decreases-entries : goal.decreases-entries
decreases-entries l = l.more
