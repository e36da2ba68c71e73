use Rattle.std.proofs.Common.{refl}
use Rattle.acpitool_program.proofs.Streams.{keeps_self}
use Rattle.acpitool_program.proofs.laying.found_image.Goals as goal

pub returns-in-Ok : goal.returns-in-Ok
returns-in-Ok g c = (refl, (c.in-Ok.field-0.items, rw c.deref.ensures.value at c.in-Ok.ensures.ok), keeps_self _)

pub returns-in_ok-tell_no_image-in-Err : goal.returns-in_ok-tell_no_image-in-Err
returns-in_ok-tell_no_image-in-Err g c = record {
  fault = c.in-Err.fault;
  cause = rw c.deref.ensures.value at c.in-Err.ensures.err;
  complained = c.in_ok-tell_no_image-in-Err.ensures.line;
  is = c.in_ok-tell_no_image-in-Err.ensures.is;
}
