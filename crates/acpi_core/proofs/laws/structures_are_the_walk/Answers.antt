use Rattle.acpi_core.proofs.Offsets.{the_walk}
use Rattle.acpi_core.proofs.laws.structures_are_the_walk.Goals as goal

pub returns : goal.returns
returns c = the_walk
