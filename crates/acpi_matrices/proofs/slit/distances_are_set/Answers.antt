use Rattle.acpi_matrices.proofs.Distances.{are_set}
use Rattle.acpi_matrices.proofs.slit.distances_are_set.Goals as goal

pub returns : goal.returns
returns c = are_set
