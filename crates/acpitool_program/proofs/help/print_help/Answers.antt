use Rattle.std.proofs.Common.{refl}
use Rattle.acpitool_program.proofs.Streams.{appends_then}
use Rattle.acpitool_program.proofs.help.print_help.Goals as goal

pub returns : goal.returns
returns g c = (
  _,
  refl,
  appends_then _ _ _ _ _ (rw c.as_bytes.ensures.value at c.in_ok-write_all.ensures.bytes) c.in_ok-write_all-2.ensures.bytes,
)
