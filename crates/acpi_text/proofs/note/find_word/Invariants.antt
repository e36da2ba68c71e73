use Rattle.std.proofs.Common.{◌≡◌, drop}
use Rattle.acpi_base.specs.Look.{words_of}
use Rattle.acpi_text.specs.Note.{find_word}
use Rattle.acpi_text.proofs.note.find_word.Given as goal

abbrev pub invariant-words : goal.invariant-words
invariant-words l = find_word (words_of (drop l.word-index l.words)) l.number ≡ find_word (words_of l.words) l.number
