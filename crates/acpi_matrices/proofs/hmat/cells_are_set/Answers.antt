use Rattle.acpi_matrices.proofs.Cells.{are_set}
use Rattle.acpi_matrices.proofs.hmat.cells_are_set.Goals as goal

pub returns : goal.returns
returns c = are_set
