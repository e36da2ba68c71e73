use Rattle.std.proofs.Common.{◌≡◌, ◌++◌, drop, map, string_bytes}
use Rattle.std.specs.Prelude.{true}
use Rattle.acpi_term.specs.View.{entry_view}
use Rattle.acpi_asl.specs.Row.{entries_text}
use Rattle.acpi_asl.proofs.row.push_entries.Given as goal

abbrev pub invariant-rows : goal.invariant-rows
invariant-rows l =
    string_bytes l.text ++ entries_text l.depth l.first l.at (map entry_view (drop l.entry-index l.entries)) ≡ string_bytes l.initial.text ++ entries_text l.depth true 0 (map entry_view l.entries)
