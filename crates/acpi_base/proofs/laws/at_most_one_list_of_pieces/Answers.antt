use Rattle.acpi_base.proofs.Walks.{one_list_of_pieces}
use Rattle.acpi_base.proofs.laws.at_most_one_list_of_pieces.Goals as goal

pub returns : goal.returns
returns c = one_list_of_pieces
