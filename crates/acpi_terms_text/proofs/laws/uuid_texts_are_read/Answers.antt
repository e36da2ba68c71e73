use Rattle.acpi_terms_text.proofs.UuidTexts.{uuid_read}
use Rattle.acpi_terms_text.proofs.laws.uuid_texts_are_read.Goals as goal

pub returns : goal.returns
returns c = uuid_read
