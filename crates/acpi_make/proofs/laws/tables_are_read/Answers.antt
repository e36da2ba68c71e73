use Rattle.acpi_make.proofs.Making.{tables_read}
use Rattle.acpi_make.proofs.laws.tables_are_read.Goals as goal

pub returns : goal.returns
returns c = tables_read
