use Rattle.acpi_layout.proofs.Standing.{are_aligned}
use Rattle.acpi_layout.proofs.laws.images_are_aligned.Goals as goal

pub returns : goal.returns
returns c = are_aligned
