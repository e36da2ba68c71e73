use Rattle.acpi_base.proofs.Checksums.{front_summed}
use Rattle.acpi_base.proofs.laws.fronts_are_summed.Goals as goal

pub returns : goal.returns
returns c = front_summed
