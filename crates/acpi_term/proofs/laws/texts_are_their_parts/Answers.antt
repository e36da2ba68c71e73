use Rattle.acpi_term.proofs.PathTexts.{parts_join, parts_dotless}
use Rattle.acpi_term.proofs.laws.texts_are_their_parts.Goals as goal

pub returns : goal.returns
returns c = λ text. (parts_join text, parts_dotless text)
