use Rattle.std.proofs.Common.{◌≡◌, ◌+◌, drop}
use Rattle.acpi_make.specs.Heading.{word_front}
use Rattle.acpi_make.proofs.heading.word_front.Given as goal

abbrev pub invariant-characters : goal.invariant-characters
invariant-characters l = record {
  count : l.count ≡ l.character-index;
  all : l.count + word_front (drop l.character-index l.text) ≡ word_front l.text;
}
