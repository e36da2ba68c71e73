use Rattle.acpi_layout.proofs.Standing.{stand}
use Rattle.acpi_layout.proofs.laws.images_stand.Goals as goal

pub returns : goal.returns
returns c = stand
