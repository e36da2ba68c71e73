use Rattle.acpi_layout.proofs.LowLaws.{low_point}
use Rattle.acpi_layout.proofs.laws.rsdt_images_point.Goals as goal

pub returns : goal.returns
returns c = low_point
