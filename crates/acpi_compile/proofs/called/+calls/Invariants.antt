use Rattle.std.proofs.Common.{◌+◌, ◌*◌}
use Rattle.acpi_compile.proofs.called.+calls.Given as goal

abbrev pub decreases-check_all : goal.decreases-check_all
decreases-check_all l = 2 * l.depth

abbrev pub decreases-check_in : goal.decreases-check_in
decreases-check_in l = 2 * l.depth + 1
