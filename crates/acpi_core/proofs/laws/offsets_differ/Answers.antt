use Rattle.acpi_core.proofs.Offsets.{differ}
use Rattle.acpi_core.proofs.laws.offsets_differ.Goals as goal

pub returns : goal.returns
returns c = differ
