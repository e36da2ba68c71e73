use Rattle.acpi_fixed.proofs.Built.{fadts_are_valid}
use Rattle.acpi_fixed.proofs.laws.fadts_are_valid.Goals as goal

pub returns : goal.returns
returns c = fadts_are_valid
