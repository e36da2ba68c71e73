use Rattle.acpi_aml.proofs.Families.{paths_mean}
use Rattle.acpi_aml.proofs.laws.paths_mean.Goals as goal

pub returns : goal.returns
returns c = paths_mean
