use Rattle.acpi_matrices.proofs.CellBytes.{stand}
use Rattle.acpi_matrices.proofs.hmat.locality.cells_stand.Goals as goal

pub returns-clause-cells : goal.returns-clause-cells
returns-clause-cells c = stand _

pub returns-clause-keeps : goal.returns-clause-keeps
returns-clause-keeps c = rw (← c.locality.view_is) c.locality.invariant
