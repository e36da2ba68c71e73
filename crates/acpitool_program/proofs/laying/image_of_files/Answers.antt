use Rattle.acpitool_program.proofs.Layings.{found_then}
use Rattle.acpitool_program.proofs.laying.image_of_files.Goals as goal

pub returns-in_ok-found_image-in-Ok : goal.returns-in_ok-found_image-in-Ok
returns-in_ok-found_image-in-Ok g c =
    found_then c.args.folder.now c.args.file.now c.args.base _ _ c.in-Ok.image _ _ _ c.in-Ok.ensures.ok c.in_ok-found_image-in-Ok.ensures
