use Rattle.acpi_text.proofs.Names.{tables_named}
use Rattle.acpi_text.proofs.laws.texts_have_names.Goals as goal

pub returns : goal.returns
returns c = tables_named
