use Rattle.acpi_build.proofs.Levels.{objects_are_rows}
use Rattle.acpi_build.proofs.laws.objects_are_rows.Goals as goal

pub returns : goal.returns
returns c = objects_are_rows
