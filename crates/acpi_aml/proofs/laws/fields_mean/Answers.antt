use Rattle.acpi_aml.proofs.Families.{fields_mean}
use Rattle.acpi_aml.proofs.laws.fields_mean.Goals as goal

pub returns : goal.returns
returns c = fields_mean
