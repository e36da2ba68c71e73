use Rattle.acpi_layout.proofs.LowLaws.{low_least}
use Rattle.acpi_layout.proofs.laws.rsdt_gaps_are_least.Goals as goal

pub returns : goal.returns
returns c = low_least
