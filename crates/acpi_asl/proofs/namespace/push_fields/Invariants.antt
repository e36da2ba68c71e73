use Rattle.std.proofs.Common.{◌≡◌, ◌++◌, drop, map, string_bytes}
use Rattle.acpi_term.specs.View.{entry_view}
use Rattle.acpi_asl.specs.Namespace.{fields_lines}
use Rattle.acpi_asl.proofs.namespace.push_fields.Given as goal

abbrev pub invariant-entries : goal.invariant-entries
invariant-entries l =
    string_bytes l.text ++ fields_lines l.depth (map entry_view (drop l.entry-index l.entries)) ≡ string_bytes l.initial.text ++ fields_lines l.depth (map entry_view l.entries)
