use Rattle.acpi_build.proofs.Levels.{packages_are_rows}
use Rattle.acpi_build.proofs.laws.packages_are_rows.Goals as goal

pub returns : goal.returns
returns c = packages_are_rows
