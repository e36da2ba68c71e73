use Rattle.acpi_text.proofs.Tables.{texts_determine}
use Rattle.acpi_text.proofs.laws.texts_determine_tables.Goals as goal

pub returns : goal.returns
returns c = texts_determine
