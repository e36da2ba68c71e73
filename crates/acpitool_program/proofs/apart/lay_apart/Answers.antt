use Rattle.std.proofs.Common.{inl, inr}
use Rattle.acpitool_program.proofs.Aparts.{written_apart}
use Rattle.acpitool_program.proofs.Streams.{keeps_self}
use Rattle.acpitool_program.proofs.apart.lay_apart.Goals as goal

pub returns-in-Ok : goal.returns-in-Ok
returns-in-Ok g c = inr (inl (written_apart c.in-Ok.image c.args.file.now c.args.base c.args.rsdp _ _ _ _ _ _
    (rw c.in-Ok.is at c.in_ok-image.ensures)
    (rw (c.as_str-pointer.ensures.value, c.in_ok-path.ensures, c.deref.ensures.value) at c.in_ok-save_apart-in-Ok.ensures)))

pub returns : goal.returns
returns g c =
    inr (inr (rw (c.in-Err.is, c.as_str-pointer.ensures.value, c.in_ok-path.ensures) at c.in_ok-image.ensures, keeps_self _))
