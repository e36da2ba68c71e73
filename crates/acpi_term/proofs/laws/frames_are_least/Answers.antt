use Rattle.acpi_term.proofs.Lengths.{width_carries, frames_least}
use Rattle.acpi_term.proofs.laws.frames_are_least.Goals as goal

pub returns : goal.returns
returns c = (λ content lt. width_carries _ lt, frames_least)
