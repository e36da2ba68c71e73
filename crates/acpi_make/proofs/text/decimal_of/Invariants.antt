use Rattle.std.proofs.Common.{◌≡◌, drop}
use Rattle.acpi_make.specs.Text.{decimal_from}
use Rattle.acpi_make.proofs.text.decimal_of.Given as goal

abbrev pub invariant-digits : goal.invariant-digits
invariant-digits l = decimal_from l.number (drop l.character-index l.text) ≡ decimal_from 0 l.text
