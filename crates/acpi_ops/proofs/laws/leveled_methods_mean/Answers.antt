use Rattle.acpi_ops.proofs.Roomy.{leveled_methods_mean}
use Rattle.acpi_ops.proofs.laws.leveled_methods_mean.Goals as goal

pub returns : goal.returns
returns c = leveled_methods_mean
