use Rattle.acpi_aml.proofs.Meanings.{buffer_terms_mean}
use Rattle.acpi_aml.proofs.laws.buffer_terms_mean.Goals as goal

pub returns : goal.returns
returns c = buffer_terms_mean
