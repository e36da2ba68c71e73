use Rattle.acpi_layout.proofs.Pointing.{point}
use Rattle.acpi_layout.proofs.laws.images_point.Goals as goal

pub returns : goal.returns
returns c = point
