use Rattle.acpi_make.proofs.Compared.{texts_shown}
use Rattle.acpi_make.proofs.laws.texts_are_shown.Goals as goal

pub returns : goal.returns
returns c = texts_shown
