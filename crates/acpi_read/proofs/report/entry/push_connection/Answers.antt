use Rattle.acpi_read.proofs.Texts.{after_three}
use Rattle.acpi_read.proofs.report.entry.push_connection.Goals as goal

pub returns : goal.returns
returns c = after_three _ _ _ _ _ _ _ c.in_ok-push_number.ensures (rw c.shown_number_width.ensures at c.in_ok-push_width.ensures) c.in_ok-push_bytes.ensures
