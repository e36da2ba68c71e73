use Rattle.acpi_read.proofs.Texts.{after_two}
use Rattle.acpi_asl.proofs.connection.push_connection.Goals as goal

pub returns : goal.returns
returns c = after_two _ _ _ _ _ c.in_ok-push_str.ensures.bytes c.in_ok-push_last_name.ensures
