use Rattle.acpi_term.proofs.Lengths.{frame_ends}
use Rattle.acpi_term.proofs.laws.frames_end_with_their_content.Goals as goal

pub returns : goal.returns
returns c = frame_ends
