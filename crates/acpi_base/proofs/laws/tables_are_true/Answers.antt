use Rattle.acpi_base.proofs.Tables.{table_is_true}
use Rattle.acpi_base.proofs.laws.tables_are_true.Goals as goal

pub returns : goal.returns
returns c = table_is_true
