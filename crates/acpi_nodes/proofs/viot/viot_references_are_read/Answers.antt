use Rattle.acpi_base.proofs.Bytes.{carried_le}
use Rattle.acpi_nodes.proofs.viot.viot_references_are_read.Goals as goal

pub returns : goal.returns
returns c = record { pci_ranges = λ r small. carried_le 2 r.output small; mmio_endpoints = λ e small. carried_le 2 e.output small }
