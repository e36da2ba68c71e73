use Rattle.acpi_core.proofs.Handles.{are_later}
use Rattle.acpi_core.proofs.laws.additions_are_later.Goals as goal

pub returns : goal.returns
returns c = are_later
