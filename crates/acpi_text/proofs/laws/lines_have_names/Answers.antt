use Rattle.acpi_text.proofs.Names.{line_named}
use Rattle.acpi_text.proofs.laws.lines_have_names.Goals as goal

pub returns : goal.returns
returns c = line_named
