use Rattle.acpi_arm.proofs.Lists.{devices}
use Rattle.acpi_arm.proofs.dbg2.dbg2_devices_are_read.Goals as goal

pub returns : goal.returns
returns c = devices
