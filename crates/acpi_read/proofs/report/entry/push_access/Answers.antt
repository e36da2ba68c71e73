use Rattle.acpi_read.proofs.Texts.{after_two}
use Rattle.acpi_read.proofs.report.entry.push_access.Goals as goal

pub returns : goal.returns
returns c = after_two _ _ _ _ _ (rw c.from.ensures at c.in_ok-push_number.ensures) (rw c.from-2.ensures at c.in_ok-push_number-2.ensures)
