use Rattle.acpi_make.proofs.Making.{tables_made}
use Rattle.acpi_make.proofs.laws.tables_are_made.Goals as goal

pub returns : goal.returns
returns c = tables_made
