use Rattle.acpi_core.proofs.Offsets.{stand}
use Rattle.acpi_core.proofs.laws.structures_stand_at_offsets.Goals as goal

pub returns : goal.returns
returns c = stand
