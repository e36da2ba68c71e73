use Rattle.std.proofs.Common.{◌≡◌, length}
use Rattle.acpi_term.specs.PathText.{parts, are_standard}
use Rattle.acpi_term.proofs.name_string.are_standard.Given as goal

abbrev pub invariant-loop-rest : goal.invariant-loop-rest
invariant-loop-rest l = are_standard (parts l.rest) ≡ are_standard (parts l.text)

abbrev pub decreases-loop-rest : goal.decreases-loop-rest
decreases-loop-rest l = length l.rest
