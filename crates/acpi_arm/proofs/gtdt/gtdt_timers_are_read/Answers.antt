use Rattle.acpi_arm.proofs.Lists.{timers}
use Rattle.acpi_arm.proofs.gtdt.gtdt_timers_are_read.Goals as goal

pub returns : goal.returns
returns c = timers
