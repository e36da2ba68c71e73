use Rattle.std.proofs.Common.{inl}
use Rattle.acpitool_program.proofs.Layings.{written_out}
use Rattle.acpitool_program.proofs.laying.lay_folder.Goals as goal

pub returns-in_ok-save_image-in-Ok : goal.returns-in_ok-save_image-in-Ok
returns-in_ok-save_image-in-Ok g c =
    inl (written_out c.in-Ok.image c.args.file.now c.args.base _ _ _ _ _ _ (rw c.in-Ok.is at c.in_ok-image.ensures)
    c.in_ok-save_image-in-Ok.ensures)
