use Rattle.acpi_core.proofs.Handles.{handles_differ}
use Rattle.acpi_core.proofs.laws.handles_differ.Goals as goal

pub returns : goal.returns
returns c = handles_differ
