use Rattle.acpi_make.proofs.Listed.{tables_walked}
use Rattle.acpi_make.proofs.laws.tables_are_walked.Goals as goal

pub returns : goal.returns
returns c = tables_walked
