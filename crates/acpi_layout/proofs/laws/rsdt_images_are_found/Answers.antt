use Rattle.acpi_layout.proofs.LowLaws.{low_found}
use Rattle.acpi_layout.proofs.laws.rsdt_images_are_found.Goals as goal

pub returns : goal.returns
returns c = low_found
