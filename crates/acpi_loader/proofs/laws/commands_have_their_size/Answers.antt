use Rattle.acpi_loader.proofs.Loads.{commands_have_their_size}
use Rattle.acpi_loader.proofs.laws.commands_have_their_size.Goals as goal

pub returns : goal.returns
returns c = commands_have_their_size
