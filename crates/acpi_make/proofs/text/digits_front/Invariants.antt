use Rattle.std.proofs.Common.{◌≡◌, ◌+◌, drop}
use Rattle.acpi_make.specs.Text.{digits_front}
use Rattle.acpi_make.proofs.text.digits_front.Given as goal

abbrev pub invariant-digits : goal.invariant-digits
invariant-digits l = record {
  count : l.count ≡ l.character-index;
  all : l.count + digits_front (drop l.character-index l.text) ≡ digits_front l.text;
}
