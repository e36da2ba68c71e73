use Rattle.acpi_base.proofs.Ends.{sdts_are_their_calls}
use Rattle.acpi_base.proofs.laws.sdts_are_their_calls.Goals as goal

pub returns : goal.returns
returns c = sdts_are_their_calls
