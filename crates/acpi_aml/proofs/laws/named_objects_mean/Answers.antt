use Rattle.acpi_aml.proofs.Families.{named_objects}
use Rattle.acpi_aml.proofs.laws.named_objects_mean.Goals as goal

pub returns : goal.returns
returns c = λ arity path name. named_objects arity path name
