use Rattle.acpi_term.proofs.Lengths.{frames_every, frames_spelled}
use Rattle.acpi_term.proofs.laws.frames_are_spelled.Goals as goal

pub returns : goal.returns
returns c = (frames_every, frames_spelled)
