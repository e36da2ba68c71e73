use Rattle.acpi_base.proofs.Objects.{at_exit}
use Rattle.acpi_layout.proofs.Low.{low_next, low_fits, low_refused}
use Rattle.acpi_layout.proofs.rsdt.list_low.Goals as goal

pub returns-in_err-add_entry-clause-err : goal.returns-in_err-add_entry-clause-err
returns-in_err-add_entry-clause-err c =
    at_exit _ _ _ c.from_residual.ensures.1
    (λ other. low_refused _ _ _ _ c.loop-place-test.true _ c.loop-place.invariant.is _ (c.in_err-add_entry.ensures.cause other))

pub loop-place-preserved : goal.loop-place-preserved
loop-place-preserved c = record {
  is = low_next _ _ _ _ _ _ _ c.loop-place-test.true c.loop-place.invariant.is c.low_address.ensures c.in_ok-add_entry.ensures.ok;
  fits = low_fits _ _ _ _ c.loop-place-test.true _ c.loop-place.invariant.is c.in_ok-add_entry.ensures.accepted;
}
