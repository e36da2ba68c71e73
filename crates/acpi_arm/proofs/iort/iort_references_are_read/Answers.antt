use Rattle.acpi_base.proofs.Bytes.{carried_le}
use Rattle.acpi_arm.proofs.iort.iort_references_are_read.Goals as goal

pub returns : goal.returns
returns c = record { mappings = λ m small. carried_le 4 m.output small; monitors = λ p small. carried_le 4 p.node small }
