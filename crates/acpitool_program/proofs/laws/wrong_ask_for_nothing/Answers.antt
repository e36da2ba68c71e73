use Rattle.acpitool_program.proofs.Wrongs.{wrong_ask_for_nothing}
use Rattle.acpitool_program.proofs.laws.wrong_ask_for_nothing.Goals as goal

pub returns : goal.returns
returns c = wrong_ask_for_nothing
