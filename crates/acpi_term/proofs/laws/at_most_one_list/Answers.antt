use Rattle.acpi_term.proofs.Unique.{one_list, one_spelling}
use Rattle.acpi_term.proofs.laws.at_most_one_list.Goals as goal

pub returns : goal.returns
returns c = (one_list, one_spelling)
