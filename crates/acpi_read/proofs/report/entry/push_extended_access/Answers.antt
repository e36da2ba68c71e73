use Rattle.acpi_read.proofs.Texts.{after_two}
use Rattle.acpi_read.proofs.report.entry.push_extended_access.Goals as goal

pub returns : goal.returns
returns c = after_two _ _ _ _ _ c.in_ok-push_access.ensures (rw c.from.ensures at c.in_ok-push_number.ensures)
