use Rattle.acpitool_program.proofs.Runs.{ended_kept}
use Rattle.acpitool_program.proofs.program.run_own.Goals as goal

pub returns : goal.returns
returns g c = (_, ended_kept _ _ _ _ _ _ _ c.in_ok-flush.ensures.bytes c.in_ok-status.ensures)
