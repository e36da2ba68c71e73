use Rattle.acpi_build.proofs.Levels.{resources_are_templates}
use Rattle.acpi_build.proofs.laws.resources_are_templates.Goals as goal

pub returns : goal.returns
returns c = resources_are_templates
