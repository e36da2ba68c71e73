use Rattle.std.proofs.Common.{◌+◌, ◌*◌}
use Rattle.acpi_compile.proofs.term.+term.Given as goal

-- A term's depth is one less within it. Of the functions that pass the same depth on, each calls those below it here.
abbrev pub decreases-finish : goal.decreases-finish
decreases-finish l = 4 * l.depth + 3

abbrev pub decreases-region : goal.decreases-region
decreases-region l = 4 * l.depth + 2

abbrev pub decreases-first_and_list : goal.decreases-first_and_list
decreases-first_and_list l = 4 * l.depth + 2

abbrev pub decreases-operands : goal.decreases-operands
decreases-operands l = 4 * l.depth + 1

abbrev pub decreases-terms : goal.decreases-terms
decreases-terms l = 4 * l.depth + 1

abbrev pub decreases-statements : goal.decreases-statements
decreases-statements l = 4 * l.depth + 1

abbrev pub decreases-term : goal.decreases-term
decreases-term l = 4 * l.depth
