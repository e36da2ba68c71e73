use Rattle.acpi_base.proofs.Tables.{overwritten_is_zero}
use Rattle.acpi_base.proofs.laws.overwritten_sums_to_zero.Goals as goal

pub returns : goal.returns
returns c = overwritten_is_zero
