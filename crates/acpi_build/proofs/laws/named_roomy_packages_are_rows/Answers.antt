use Rattle.acpi_build.proofs.Levels.{named_roomy_packages_are_rows}
use Rattle.acpi_build.proofs.laws.named_roomy_packages_are_rows.Goals as goal

pub returns : goal.returns
returns c = named_roomy_packages_are_rows
