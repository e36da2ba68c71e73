use Rattle.acpi_core.proofs.Offsets.{are_true}
use Rattle.acpi_core.proofs.laws.listings_are_true.Goals as goal

pub returns : goal.returns
returns c = are_true
