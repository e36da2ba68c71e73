use Rattle.acpi_aml.proofs.NameTexts.{paths_are_names}
use Rattle.acpi_aml.proofs.laws.paths_are_names.Goals as goal

pub returns : goal.returns
returns c = paths_are_names
