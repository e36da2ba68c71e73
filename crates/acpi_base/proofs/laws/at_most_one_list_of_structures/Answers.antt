use Rattle.acpi_base.proofs.FurtherWalks.{one_list_of_structures}
use Rattle.acpi_base.proofs.laws.at_most_one_list_of_structures.Goals as goal

pub returns : goal.returns
returns c = one_list_of_structures
