use Rattle.std.proofs.Common.{arith}
use Rattle.acpi_text.proofs.Trims.{trims_on, trims_here}
use Rattle.acpi_text.proofs.note.trimmed.Goals as goal

pub returns-then-bytes-end-ne0 : goal.returns-then-bytes-end-ne0
returns-then-bytes-end-ne0 c =
    trims_here c.args.bytes.now c.zeros.end (omega arith) c.zeros.invariant.within (omega (arith, c.if-bytes-end-ne0.true)) c.zeros.invariant.same

pub zeros-preserved : goal.zeros-preserved
zeros-preserved c = record {
  within = omega arith;
  same =
      trims_on c.args.bytes.now c.zeros.end (omega arith) c.zeros.invariant.within (omega (arith, c.if-bytes-end-ne0.false)) c.zeros.invariant.same;
}
