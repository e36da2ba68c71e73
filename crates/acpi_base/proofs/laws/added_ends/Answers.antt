use Rattle.acpi_base.proofs.Ends.{added_ends}
use Rattle.acpi_base.proofs.laws.added_ends.Goals as goal

pub returns : goal.returns
returns c = added_ends
