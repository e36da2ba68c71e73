use Rattle.acpi_ops.proofs.Roomy.{roomy_packages_mean}
use Rattle.acpi_ops.proofs.laws.roomy_packages_mean.Goals as goal

pub returns : goal.returns
returns c = roomy_packages_mean
