use Rattle.acpi_term.proofs.NameTexts.{named_path}
use Rattle.acpi_term.proofs.laws.name_texts_are_names.Goals as goal

pub returns : goal.returns
returns c = named_path
