use Rattle.std.proofs.Common.{◌≡◌, drop}
use Rattle.acpi_base.specs.Look.{words_of}
use Rattle.acpi_make.specs.Value.{front_name}
use Rattle.acpi_make.proofs.value.front_name.Given as goal

abbrev pub invariant-words : goal.invariant-words
invariant-words l = front_name l.mask (words_of (drop l.word-index l.words)) l.text ≡ front_name l.mask (words_of l.words) l.text
