use Rattle.acpitool_program.proofs.Layings.{text_file}
use Rattle.acpitool_program.proofs.laying.file_of.Goals as goal

pub returns-in-Ok : goal.returns-in-Ok
returns-in-Ok g c =
    text_file (λ v. v.items) c.args.path.now _ c.in-Ok.table _ _ _ _ (cc) (rw c.in-Ok.is at c.in_ok-table.ensures)
    c.in_ok-sound-in-Ok.ensures
