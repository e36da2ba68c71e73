use Rattle.acpi_text.proofs.Lines.{line_has}
use Rattle.acpi_text.proofs.laws.lines_have_fields.Goals as goal

pub returns : goal.returns
returns c = line_has
