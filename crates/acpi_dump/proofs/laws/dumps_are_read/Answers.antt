use Rattle.acpi_dump.proofs.ReadBack.{dumps_read}
use Rattle.acpi_dump.proofs.laws.dumps_are_read.Goals as goal

pub returns : goal.returns
returns c = dumps_read
