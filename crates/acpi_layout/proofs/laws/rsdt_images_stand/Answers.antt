use Rattle.acpi_layout.proofs.LowLaws.{low_stand}
use Rattle.acpi_layout.proofs.laws.rsdt_images_stand.Goals as goal

pub returns : goal.returns
returns c = low_stand
