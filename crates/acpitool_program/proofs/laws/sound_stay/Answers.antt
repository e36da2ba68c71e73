use Rattle.acpitool_program.proofs.Stays.{sound_stay}
use Rattle.acpitool_program.proofs.laws.sound_stay.Goals as goal

pub returns : goal.returns
returns c = sound_stay
