use Rattle.acpi_core.proofs.Offsets.{grow}
use Rattle.acpi_core.proofs.laws.listings_grow.Goals as goal

pub returns : goal.returns
returns c = grow
