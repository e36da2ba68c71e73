use Rattle.std.proofs.Common.{◌≡◌, ◌++◌, [], map, string_bytes}
use Rattle.std.specs.Prelude.{replicate}
use Rattle.acpi_terms_text.proofs.note.add_entries.Given as goal

abbrev pub invariant-entries : goal.invariant-entries
invariant-entries l = map string_bytes l.texts.items ≡ map string_bytes l.initial.texts.items ++ replicate l._entry-index []
