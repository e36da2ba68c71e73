use Rattle.std.proofs.Common.{◌≡◌, ◌++◌, drop, map, string_bytes}
use denote.Text.{Utf8}
use denote.Shadow.{shadow}
use Rattle.acpi_terms_text.specs.Woven.{woven}
use Rattle.acpi_terms_text.proofs.annotate.push_woven.Given as goal

abbrev pub invariant-lines : goal.invariant-lines
invariant-lines l = shadow (Utf8 l.rest)
    × (string_bytes l.text ++ woven l.rest (map string_bytes (drop l.note-index l.notes))
    ≡ string_bytes l.initial.text ++ woven l.lines (map string_bytes l.notes))
