use Rattle.std.proofs.Common.{◌≡◌, length}
use Rattle.acpi_terms_text.specs.Path.{path_in}
use Rattle.acpi_terms_text.proofs.path.parts_in.Given as goal

abbrev pub invariant-parents : goal.invariant-parents
invariant-parents l = path_in l.around l.rest ≡ path_in l.scope l.name

abbrev pub decreases-parents : goal.decreases-parents
decreases-parents l = length l.rest
