use Rattle.acpi_arm.proofs.Devices.{keeps_device}
use Rattle.acpi_arm.proofs.dbg2.DBG2.add_device.Goals as goal

pub invariant_of-self : goal.invariant_of-self
invariant_of-self c = keeps_device _ _ _ c.args.device c.self.invariant c.add_object.ensures
