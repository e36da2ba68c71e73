use Rattle.acpi_matrices.proofs.Distances.{are_true}
use Rattle.acpi_matrices.proofs.slit.distances_are_true.Goals as goal

pub returns : goal.returns
returns c = are_true
