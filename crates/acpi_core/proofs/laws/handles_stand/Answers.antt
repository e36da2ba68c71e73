use Rattle.acpi_core.proofs.Handles.{handles_stand}
use Rattle.acpi_core.proofs.laws.handles_stand.Goals as goal

pub returns : goal.returns
returns c = handles_stand
