use Rattle.std.proofs.Common.{rules}
use Rattle.acpi_arm.proofs.Timers.{earlier_gtdts}
use Rattle.acpi_arm.proofs.gtdt.earlier_gtdts_are_true.Goals as goal

pub returns : goal.returns
returns c = earlier_gtdts c.args.oem (search rules) (search rules)
