use Rattle.acpi_aml.proofs.Families.{statements_mean}
use Rattle.acpi_aml.proofs.laws.statements_mean.Goals as goal

pub returns : goal.returns
returns c = statements_mean
