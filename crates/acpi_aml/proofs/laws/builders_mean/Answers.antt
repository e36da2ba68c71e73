use Rattle.acpi_aml.proofs.Meanings.{builders_mean}
use Rattle.acpi_aml.proofs.laws.builders_mean.Goals as goal

pub returns : goal.returns
returns c = builders_mean
