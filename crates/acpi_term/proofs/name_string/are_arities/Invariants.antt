use Rattle.std.proofs.Common.{◌≡◌, length}
use Rattle.acpi_term.specs.Arity.{are_arities}
use Rattle.acpi_term.proofs.name_string.are_arities.Given as goal

abbrev pub invariant-loop-name : goal.invariant-loop-name
invariant-loop-name l = are_arities l.rest ≡ are_arities l.counts

abbrev pub decreases-loop-name : goal.decreases-loop-name
decreases-loop-name l = length l.rest
