use Rattle.std.proofs.Common.{map, drop, string_bytes}
use Rattle.acpi_term.specs.View.{entry_view}
use Rattle.acpi_asl.specs.Absent.{connection_items}
use Rattle.acpi_asl.proofs.Absents.{Going}
use Rattle.acpi_asl.proofs.absent.push_connections.Given as goal

abbrev pub invariant-entries : goal.invariant-entries
invariant-entries l =
    Going (connection_items l.scope (map entry_view (drop l.entry-index l.entries))) (connection_items l.scope (map entry_view l.entries))
    l.initial.known l.known (string_bytes l.initial.text) (string_bytes l.text)
