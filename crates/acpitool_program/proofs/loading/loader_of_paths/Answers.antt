use Rattle.acpitool_program.proofs.Loadings.{loaded_then}
use Rattle.acpitool_program.proofs.loading.loader_of_paths.Goals as goal

pub returns-in_ok-loader_of_files-in-Ok : goal.returns-in_ok-loader_of_files-in-Ok
returns-in_ok-loader_of_files-in-Ok g c =
    loaded_then c.args.folder.now _ _ _ _ _ _ (rw c.in-Ok.is at c.in_ok-files.ensures)
    (rw c.deref.ensures.value at c.in_ok-loader_of_files-in-Ok.ensures)
