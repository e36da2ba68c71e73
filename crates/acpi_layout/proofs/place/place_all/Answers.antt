use Rattle.acpi_base.proofs.Objects.{at_exit}
use Rattle.acpi_layout.proofs.Images.{places_next, ends_at, memory_end}
use Rattle.acpi_layout.proofs.place.place_all.Goals as goal

pub returns-in_err-append-clause-err : goal.returns-in_err-append-clause-err
returns-in_err-append-clause-err g c =
    at_exit _ _ _ c.from_residual-in_err-append.ensures.1
    (ends_at (λ table. (goal.Aml-dyn g table.now).object table.now.1) _ _ _ c.loop-table-test.true c.table-item.is _ _ _ c.loop-table.invariant c.in_err-append.ensures.err)

pub loop-table-preserved : goal.loop-table-preserved
loop-table-preserved g c =
    places_next (λ table. (goal.Aml-dyn g table.now).object table.now.1) _ _ _ c.loop-table-test.true c.table-item.is _ _ _ _ _ _ c.loop-table.invariant
    c.in_ok-begin.ensures.bytes c.in_ok-begin.ensures.places c.in_ok-append.ensures.ok

pub returns-in_err-begin-clause-err : goal.returns-in_err-begin-clause-err
returns-in_err-begin-clause-err g c = at_exit _ _ _ c.from_residual.ensures.1 (memory_end _ _ c.in_err-begin.ensures.err)
