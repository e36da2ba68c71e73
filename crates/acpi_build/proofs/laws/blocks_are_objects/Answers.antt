use Rattle.acpi_build.proofs.Levels.{blocks_are_objects}
use Rattle.acpi_build.proofs.laws.blocks_are_objects.Goals as goal

pub returns : goal.returns
returns c = blocks_are_objects
