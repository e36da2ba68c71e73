use Rattle.std.proofs.Common.{◌+◌, ◌*◌}
use Rattle.acpi_compile.proofs.stated.+uses.Given as goal

abbrev pub decreases-first_use : goal.decreases-first_use
decreases-first_use l = 2 * l.depth

abbrev pub decreases-use_in : goal.decreases-use_in
decreases-use_in l = 2 * l.depth + 1
