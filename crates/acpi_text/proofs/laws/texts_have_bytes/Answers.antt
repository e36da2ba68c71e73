use Rattle.acpi_text.proofs.Tables.{slots_have}
use Rattle.acpi_text.proofs.laws.texts_have_bytes.Goals as goal

pub returns : goal.returns
returns c = slots_have
