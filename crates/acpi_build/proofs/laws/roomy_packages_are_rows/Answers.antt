use Rattle.acpi_build.proofs.Levels.{roomy_packages_are_rows}
use Rattle.acpi_build.proofs.laws.roomy_packages_are_rows.Goals as goal

pub returns : goal.returns
returns c = roomy_packages_are_rows
