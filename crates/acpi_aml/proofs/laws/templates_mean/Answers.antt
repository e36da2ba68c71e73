use Rattle.acpi_aml.proofs.Families.{templates_mean}
use Rattle.acpi_aml.proofs.laws.templates_mean.Goals as goal

pub returns : goal.returns
returns c = templates_mean
