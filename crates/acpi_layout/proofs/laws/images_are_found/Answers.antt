use Rattle.acpi_layout.proofs.ReadBack.{are_found}
use Rattle.acpi_layout.proofs.laws.images_are_found.Goals as goal

pub returns : goal.returns
returns c = are_found
