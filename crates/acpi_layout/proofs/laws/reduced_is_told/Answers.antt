use Rattle.acpi_layout.proofs.ReadBack.{reduced_is_told}
use Rattle.acpi_layout.proofs.laws.reduced_is_told.Goals as goal

pub returns : goal.returns
returns c = reduced_is_told
