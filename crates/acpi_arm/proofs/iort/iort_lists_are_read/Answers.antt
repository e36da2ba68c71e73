use Rattle.acpi_arm.proofs.Lists.{nodes}
use Rattle.acpi_arm.proofs.iort.iort_lists_are_read.Goals as goal

pub returns : goal.returns
returns c = nodes
