use Rattle.acpi_hest.proofs.Boxes.{wrote_next, refused_among}
use Rattle.acpi_hest.proofs.hest.error_data.write_all.Goals as goal

pub returns-in_err-write_one-clause-err : goal.returns-in_err-write_one-clause-err
returns-in_err-write_one-clause-err g c =
    refused_among (λ part. (goal.Aml-dyn g (part.vtable, part.value)).object part.value) _ _ _ _ _ _ _ _ _ c.deref-part-items.ensures.value c.loop-part-test.true c.part-item.is
    c.from_residual.ensures.1 c.loop-part.invariant c.in_err-write_one.ensures.err

pub loop-part-preserved : goal.loop-part-preserved
loop-part-preserved g c =
    wrote_next (λ part. (goal.Aml-dyn g (part.vtable, part.value)).object part.value) _ _ _ c.loop-part-test.true c.part-item.is _ _ _ c.loop-part.invariant c.in_ok-write_one.ensures.ok
