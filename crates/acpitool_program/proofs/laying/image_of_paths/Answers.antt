use Rattle.acpitool_program.proofs.Layings.{laid_then}
use Rattle.acpitool_program.proofs.Replaced.{false_with, of_each}
use Rattle.acpitool_program.proofs.laying.image_of_paths.Goals as goal

pub returns-in_ok-image_of_files-in-Ok-clause-image : goal.returns-in_ok-image_of_files-in-Ok-clause-image
returns-in_ok-image_of_files-in-Ok-clause-image g c =
    laid_then c.args.folder.now c.args.file.now c.args.base _ _ _ _ _ _ (rw c.in-Ok.is at c.in_ok-files.ensures)
    (rw c.deref.ensures.value at c.in_ok-image_of_files-in-Ok.ensures)

pub returns-in_ok-image_of_files-in-Ok-clause-kept : goal.returns-in_ok-image_of_files-in-Ok-clause-kept
returns-in_ok-image_of_files-in-Ok-clause-kept g c = of_each _ _ (false_with _ _ c.is_among.ensures c.if-is_among.false)
