use Rattle.acpi_term.proofs.Unique.{one_term_front}
use Rattle.acpi_term.proofs.laws.at_most_one_front.Goals as goal

pub returns : goal.returns
returns c = one_term_front
