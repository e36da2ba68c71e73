use Rattle.acpi_text.proofs.Lines.{title_has}
use Rattle.acpi_text.proofs.laws.titles_are_empty.Goals as goal

pub returns : goal.returns
returns c = title_has
