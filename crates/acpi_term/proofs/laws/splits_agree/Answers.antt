use Rattle.acpi_term.proofs.Unique.{splits_agree}
use Rattle.acpi_term.proofs.laws.splits_agree.Goals as goal

pub returns : goal.returns
returns c = splits_agree
