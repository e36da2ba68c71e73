use Rattle.acpi_aml.proofs.Meanings.{names_mean}
use Rattle.acpi_aml.proofs.laws.names_mean.Goals as goal

pub returns : goal.returns
returns c = names_mean
