use Rattle.std.proofs.Common.{refl}
use Rattle.acpitool_program.proofs.Streams.{appends_then}
use Rattle.acpitool_program.proofs.help.tell_wrong.Goals as goal

pub returns : goal.returns
returns g c = (refl, appends_then _ _ _ _ _ c.in_ok-print_wrong.ensures (rw c.as_bytes.ensures.value at c.in_ok-write_all.ensures.bytes))
