use Rattle.acpi_aml.proofs.Meanings.{numbers_mean}
use Rattle.acpi_aml.proofs.laws.numbers_mean.Goals as goal

pub returns : goal.returns
returns c = numbers_mean
