use Rattle.acpitool_program.proofs.Replaced.{false_with, if_none}
use Rattle.acpitool_program.proofs.making.make_file.Goals as goal

pub returns-clause-kept : goal.returns-clause-kept
returns-clause-kept g c = if_none _ _ (false_with _ _ c.is_same_file.ensures.same c.if-is_same_file.false)
