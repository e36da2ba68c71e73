use Rattle.acpi_make.proofs.Truth.{tables_true}
use Rattle.acpi_make.proofs.laws.tables_are_true.Goals as goal

pub returns : goal.returns
returns c = tables_true
