use Rattle.acpi_read.proofs.Refusals.{spelled_are_read}
use Rattle.acpi_read.proofs.laws.spelled_terms_are_read.Goals as goal

pub returns : goal.returns
returns c = spelled_are_read
