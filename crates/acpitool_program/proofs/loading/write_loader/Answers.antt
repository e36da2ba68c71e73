use Rattle.std.proofs.Common.{inl}
use Rattle.acpitool_program.proofs.Loadings.{put_out}
use Rattle.acpitool_program.proofs.Streams.{keeps_self}
use Rattle.acpitool_program.proofs.loading.write_loader.Goals as goal

pub returns-then-status-ne0 : goal.returns-then-status-ne0
returns-then-status-ne0 g c = inl (c.if-status-ne0.true, c.in_ok-status.ensures, keeps_self _)

pub returns : goal.returns
returns g c =
    put_out c.args.loader.now c.args.to.now _ _ _ _ _ c.in_ok-status.status c.in_ok-written.written c.in_ok-status.ensures
    c.if-status-ne0.false c.in_ok-written.ensures
