use Rattle.acpitool_program.proofs.Aparts.{laid_apart}
use Rattle.acpitool_program.proofs.apart.apart_of_paths.Goals as goal

pub returns-in_ok-apart_of_files-in-Ok-clause-image : goal.returns-in_ok-apart_of_files-in-Ok-clause-image
returns-in_ok-apart_of_files-in-Ok-clause-image g c =
    laid_apart c.args.folder.now c.args.file.now c.args.pointer.now c.args.base c.args.rsdp _ _ _ _ _ _
    (rw c.in-Ok.is at c.in_ok-files.ensures) (rw c.deref.ensures.value at c.in_ok-apart_of_files-in-Ok.ensures)
