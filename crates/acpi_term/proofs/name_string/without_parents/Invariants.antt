use Rattle.std.proofs.Common.{◌≡◌, length}
use Rattle.acpi_term.specs.Name.{without_parents}
use Rattle.acpi_term.proofs.name_string.without_parents.Given as goal

abbrev pub invariant-parents : goal.invariant-parents
invariant-parents l = without_parents l.rest ≡ without_parents l.name

abbrev pub decreases-parents : goal.decreases-parents
decreases-parents l = length l.rest
