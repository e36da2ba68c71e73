use Rattle.acpi_base.proofs.Walks.{one_walk}
use Rattle.acpi_base.proofs.laws.at_most_one_walk.Goals as goal

pub returns : goal.returns
returns c = one_walk
