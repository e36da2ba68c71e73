use Rattle.acpi_base.proofs.Checksums.{whole_summed}
use Rattle.acpi_base.proofs.laws.whole_objects_are_summed.Goals as goal

pub returns : goal.returns
returns c = whole_summed
