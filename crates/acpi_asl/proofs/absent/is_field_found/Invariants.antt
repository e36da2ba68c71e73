use Rattle.std.proofs.Common.{◌≡◌, map, drop}
use Rattle.acpi_term.specs.View.{entry_view}
use Rattle.acpi_asl.specs.Absent.{connection_items, are_found}
use Rattle.acpi_asl.proofs.absent.is_field_found.Given as goal

abbrev pub invariant-entries : goal.invariant-entries
invariant-entries l =
    are_found l.known (connection_items l.scope (map entry_view (drop l.entry-index l.entries)))
    ≡ are_found l.known (connection_items l.scope (map entry_view l.entries))
