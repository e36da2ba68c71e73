use Rattle.acpi_loader.proofs.Loads.{loaders_lay}
use Rattle.acpi_loader.proofs.laws.loaders_lay.Goals as goal

pub returns : goal.returns
returns c = loaders_lay
