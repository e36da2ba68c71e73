use Rattle.std.proofs.Common.{◌+◌, ◌*◌}
use Rattle.acpi_compile.proofs.doubt.+doubts.Given as goal

abbrev pub decreases-look_at_all : goal.decreases-look_at_all
decreases-look_at_all l = 2 * l.depth

abbrev pub decreases-look_at : goal.decreases-look_at
decreases-look_at l = 2 * l.depth + 1
