use Rattle.acpitool_program.proofs.Commands.{ask_for_one}
use Rattle.acpitool_program.proofs.laws.ask_for_one.Goals as goal

pub returns : goal.returns
returns c = ask_for_one
