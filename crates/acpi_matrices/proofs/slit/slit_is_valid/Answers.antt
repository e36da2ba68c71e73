use Rattle.acpi_matrices.proofs.DistanceCalls.{is_after_its_calls}
use Rattle.acpi_matrices.proofs.Distances.{are_symmetric, are_true, slit_without_pieces}
use Rattle.acpi_matrices.proofs.slit.slit_is_valid.Goals as goal

pub returns-clause-valid : goal.returns-clause-valid
returns-clause-valid c = rw (← c.table.view_is) (are_true _ c.table.invariant.is).0

pub returns-clause-pieces : goal.returns-clause-pieces
returns-clause-pieces c = slit_without_pieces c.args.table.now.table

pub returns-clause-matrix : goal.returns-clause-matrix
returns-clause-matrix c = rw (← c.table.view_is) c.table.invariant.is

pub returns-clause-symmetric : goal.returns-clause-symmetric
returns-clause-symmetric c = rw (← c.table.view_is) (are_symmetric _ c.table.invariant.is)

pub returns-clause-calls : goal.returns-clause-calls
returns-clause-calls c = is_after_its_calls c.args.table.now
