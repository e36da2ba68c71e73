use Rattle.acpi_terms_text.proofs.EisaTexts.{eisa_read}
use Rattle.acpi_terms_text.proofs.laws.eisa_texts_are_read.Goals as goal

pub returns : goal.returns
returns c = eisa_read
