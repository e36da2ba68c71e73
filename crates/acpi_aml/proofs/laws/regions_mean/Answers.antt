use Rattle.acpi_aml.proofs.Families.{regions_mean}
use Rattle.acpi_aml.proofs.laws.regions_mean.Goals as goal

pub returns : goal.returns
returns c = regions_mean
