use Rattle.acpi_layout.proofs.Standing.{are_least}
use Rattle.acpi_layout.proofs.laws.gaps_are_least.Goals as goal

pub returns : goal.returns
returns c = are_least
