use Rattle.acpi_base.proofs.Objects.{at_exit}
use Rattle.acpi_layout.proofs.Images.{listing_next, entry_fits, entry_refused}
use Rattle.acpi_layout.proofs.layout.list.Goals as goal

pub returns-in_err-add_entry-clause-err : goal.returns-in_err-add_entry-clause-err
returns-in_err-add_entry-clause-err c =
    at_exit _ _ _ c.from_residual.ensures.1
    (λ other. entry_refused _ _ _ _ c.loop-place-test.true _ c.loop-place.invariant.is _ (c.in_err-add_entry.ensures.cause other))

pub loop-place-preserved : goal.loop-place-preserved
loop-place-preserved c = record {
  is = listing_next _ _ _ _ _ _ _ c.loop-place-test.true c.loop-place.invariant.is c.address.ensures.bytes c.in_ok-add_entry.ensures.ok;
  fits = entry_fits _ _ _ _ c.loop-place-test.true _ c.loop-place.invariant.is c.in_ok-add_entry.ensures.accepted;
}
