use Rattle.std.proofs.Common.{arith}
use Rattle.acpi_base.proofs.Tables.{added_added}
use Rattle.acpi_base.proofs.laws.added_at_once.Goals as goal

pub returns : goal.returns
returns c = λ table a b long. added_added table a b (omega arith)
