use Rattle.acpi_base.proofs.Rows.{took_next_part, refused_at_part}
use Rattle.acpi_base.proofs.parts.write_parts.Goals as goal

pub returns-in_err-vec-clause-err : goal.returns-in_err-vec-clause-err
returns-in_err-vec-clause-err g c =
    refused_at_part (λ part. part.now) _ _ _ c.loop-part-test.true _ _ _ _ _ c.from_residual.ensures.1 c.loop-part.invariant c.in_err-vec.ensures.1

pub loop-part-preserved : goal.loop-part-preserved
loop-part-preserved g c =
    took_next_part (λ part. part.now) _ _ _ c.loop-part-test.true _ _ _ c.loop-part.invariant c.in_ok-vec.ensures.0
