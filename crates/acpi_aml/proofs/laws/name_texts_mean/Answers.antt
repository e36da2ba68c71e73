use Rattle.acpi_aml.proofs.NameTexts.{name_texts_mean}
use Rattle.acpi_aml.proofs.laws.name_texts_mean.Goals as goal

pub returns : goal.returns
returns c = name_texts_mean
