use Rattle.std.proofs.Common.{◌≡◌, ◌++◌, string_bytes, drop}
use Rattle.acpi_base.specs.Look.{words_of}
use Rattle.acpi_make.specs.Template.{more_names}
use Rattle.acpi_make.proofs.template.push_more_names.Given as goal

abbrev pub invariant-words : goal.invariant-words
invariant-words l =
    string_bytes l.text ++ more_names (words_of (drop l.word-index l.words)) ≡ string_bytes l.initial.text ++ more_names (words_of l.words)
