use Rattle.acpi_base.proofs.Tables.{added_is_true}
use Rattle.acpi_base.proofs.laws.added_is_true.Goals as goal

pub returns : goal.returns
returns c = added_is_true
