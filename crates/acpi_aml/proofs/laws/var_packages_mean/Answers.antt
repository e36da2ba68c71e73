use Rattle.acpi_aml.proofs.Meanings.{var_packages_mean}
use Rattle.acpi_aml.proofs.laws.var_packages_mean.Goals as goal

pub returns : goal.returns
returns c = var_packages_mean
