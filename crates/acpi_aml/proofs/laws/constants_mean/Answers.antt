use Rattle.acpi_aml.proofs.Meanings.{constants_mean}
use Rattle.acpi_aml.proofs.laws.constants_mean.Goals as goal

pub returns : goal.returns
returns c = constants_mean
