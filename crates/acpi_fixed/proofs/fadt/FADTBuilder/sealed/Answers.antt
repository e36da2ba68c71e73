use Rattle.std.proofs.Common.{◌∙◌, ◌++◌}
use Rattle.acpi_base.specs.Table.{with_checksum}
use Rattle.acpi_fixed.proofs.fadt.FADTBuilder.sealed.Goals as goal

pub returns : goal.returns
returns c = c.sealed_table.ensures ∙ λ i. with_checksum (c.header.ensures i ++ c.bytes.ensures i)
