use Rattle.acpi_fixed.proofs.Tables.{first_pointers}
use Rattle.acpi_fixed.proofs.laws.first_pointers_sum_to_zero.Goals as goal

pub returns : goal.returns
returns c = first_pointers
