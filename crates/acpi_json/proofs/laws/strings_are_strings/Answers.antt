use Rattle.acpi_json.proofs.Strings.{strings_are_strings}
use Rattle.acpi_json.proofs.laws.strings_are_strings.Goals as goal

pub returns : goal.returns
returns c = strings_are_strings
