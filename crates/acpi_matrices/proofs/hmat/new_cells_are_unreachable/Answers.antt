use Rattle.acpi_matrices.proofs.Cells.{are_unreachable}
use Rattle.acpi_matrices.proofs.hmat.new_cells_are_unreachable.Goals as goal

pub returns : goal.returns
returns c = are_unreachable
