use Rattle.std.proofs.Common.{refl}
use Rattle.acpitool_program.proofs.Streams.{appends_then}
use Rattle.acpitool_program.proofs.program.tell_unknown.Goals as goal

pub returns : goal.returns
returns g c = (
  refl,
  appends_then _ _ _ _ _
      (appends_then _ _ _ _ _ c.in_ok-write.ensures.bytes
      (rw (c.meant.ensures, c.as_bytes.ensures.value) at c.in_ok-print_suggestion.ensures))
      c.in_ok-write_all.ensures.bytes,
)
