use Rattle.std.proofs.Common.{◌≡◌, drop}
use Rattle.acpi_make.specs.Text.{hex_from}
use Rattle.acpi_make.proofs.text.hex_of.Given as goal

abbrev pub invariant-digits : goal.invariant-digits
invariant-digits l = hex_from l.number (drop l.character-index l.text) ≡ hex_from 0 l.text
