use Rattle.acpi_aml.proofs.Meanings.{texts_mean}
use Rattle.acpi_aml.proofs.laws.texts_mean.Goals as goal

pub returns : goal.returns
returns c = texts_mean
