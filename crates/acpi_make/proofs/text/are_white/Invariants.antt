use Rattle.std.proofs.Common.{◌≡◌, drop}
use Rattle.acpi_make.specs.Text.{are_white}
use Rattle.acpi_make.proofs.text.are_white.Given as goal

abbrev pub invariant-characters : goal.invariant-characters
invariant-characters l = are_white (drop l.character-index l.text) ≡ are_white l.text
