use Rattle.acpi_layout.proofs.LowLaws.{low_aligned}
use Rattle.acpi_layout.proofs.laws.rsdt_images_are_aligned.Goals as goal

pub returns : goal.returns
returns c = low_aligned
