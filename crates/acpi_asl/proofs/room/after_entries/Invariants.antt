use Rattle.std.proofs.Common.{◌≡◌, ◌-◌, drop, length, map}
use Rattle.acpi_term.specs.Row.{entries_bytes}
use Rattle.acpi_term.specs.View.{entry_view}
use Rattle.acpi_asl.proofs.room.after_entries.Given as goal

abbrev pub invariant-entries : goal.invariant-entries
invariant-entries l =
    l.left - length (entries_bytes (map entry_view (drop l.entry-index l.entries))) ≡ l.room - length (entries_bytes (map entry_view l.entries))
