use Rattle.acpi_fixed.proofs.Tables.{pointers}
use Rattle.acpi_fixed.proofs.laws.pointers_sum_to_zero.Goals as goal

pub returns : goal.returns
returns c = pointers
