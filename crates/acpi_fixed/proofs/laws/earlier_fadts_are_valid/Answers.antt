use Rattle.acpi_fixed.proofs.Built.{earlier_fadts_are_valid}
use Rattle.acpi_fixed.proofs.laws.earlier_fadts_are_valid.Goals as goal

pub returns : goal.returns
returns c = earlier_fadts_are_valid
