use Rattle.acpi_rules.proofs.Shown.{fields_are_shown}
use Rattle.acpi_rules.proofs.laws.fields_are_shown.Goals as goal

pub returns : goal.returns
returns c = fields_are_shown
