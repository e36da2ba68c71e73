use Rattle.std.proofs.Common.{◌≡◌, ◌++◌, drop, map, string_bytes}
use Rattle.acpi_term.specs.View.{entry_view}
use Rattle.acpi_asl.specs.Objects.{field_objects}
use Rattle.acpi_asl.proofs.objects.push_fields.Given as goal

abbrev pub invariant-entries : goal.invariant-entries
invariant-entries l =
    string_bytes l.text ++ field_objects l.scope (map entry_view (drop l.entry-index l.entries)) ≡ string_bytes l.initial.text ++ field_objects l.scope (map entry_view l.entries)
