use Rattle.acpi_text.proofs.Stands.{tables_stand}
use Rattle.acpi_text.proofs.laws.fields_stand.Goals as goal

pub returns : goal.returns
returns c = tables_stand
