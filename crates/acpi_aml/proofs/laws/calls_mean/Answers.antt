use Rattle.acpi_aml.proofs.Families.{calls_mean}
use Rattle.acpi_aml.proofs.laws.calls_mean.Goals as goal

pub returns : goal.returns
returns c = calls_mean
