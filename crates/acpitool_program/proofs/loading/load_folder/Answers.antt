use Rattle.std.proofs.Common.{inl, inr}
use Rattle.acpitool_program.proofs.Streams.{keeps_self}
use Rattle.acpitool_program.proofs.Loadings.{loaded_out}
use Rattle.acpitool_program.proofs.loading.load_folder.Goals as goal

pub returns-in_ok-write_loader-in-Ok : goal.returns-in_ok-write_loader-in-Ok
returns-in_ok-write_loader-in-Ok g c =
    inl (loaded_out c.in-Ok.loader c.args.to.now _ _ _ _ _ _ (rw c.in-Ok.is at c.in_ok-loader.ensures)
    c.in_ok-write_loader-in-Ok.ensures)

pub returns-in-Err : goal.returns-in-Err
returns-in-Err g c = inr (rw c.in-Err.is at c.in_ok-loader.ensures, keeps_self (g.O.Write.contents c.args.out.now))
