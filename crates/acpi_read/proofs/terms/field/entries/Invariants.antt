use Rattle.std.proofs.Common.{length, map}
use Rattle.acpi_term.specs.View.{entry_view}
use Rattle.acpi_read.proofs.EntryLists.{EntriesRead}
use Rattle.acpi_read.proofs.terms.field.entries.Given as goal

abbrev pub invariant-entries : goal.invariant-entries
invariant-entries l = EntriesRead l.language l.bytes (map entry_view l.entries.items) l.rest

abbrev pub decreases-entries : goal.decreases-entries
decreases-entries l = length l.rest
