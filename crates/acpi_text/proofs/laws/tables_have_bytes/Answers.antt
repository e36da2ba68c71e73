use Rattle.acpi_text.proofs.Tables.{tables_have}
use Rattle.acpi_text.proofs.laws.tables_have_bytes.Goals as goal

pub returns : goal.returns
returns c = tables_have
