use Rattle.std.proofs.Common.{refl}
use Rattle.acpitool_program.proofs.Streams.{keeps_self}
use Rattle.acpitool_program.proofs.laying.sound.Goals as goal

pub returns : goal.returns
returns g c = (refl, rw c.deref.ensures.value at c.in_default.ensures.ok, keeps_self _)
