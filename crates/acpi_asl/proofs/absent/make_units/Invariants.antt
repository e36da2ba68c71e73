use Rattle.std.proofs.Common.{◌≡◌, map, drop}
use Rattle.acpi_term.specs.View.{entry_view}
use Rattle.acpi_asl.specs.Absent.{made_units, known_after}
use Rattle.acpi_asl.proofs.absent.make_units.Given as goal

abbrev pub invariant-entries : goal.invariant-entries
invariant-entries l =
    known_after l.known (made_units l.scope (map entry_view (drop l.entry-index l.entries)))
    ≡ known_after l.initial.known (made_units l.scope (map entry_view l.entries))
