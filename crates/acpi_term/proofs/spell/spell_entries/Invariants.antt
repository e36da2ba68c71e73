use Rattle.acpi_term.proofs.Spells.{EntriesGo}
use Rattle.acpi_term.proofs.spell.spell_entries.Given as goal

abbrev pub invariant-loop-entry : goal.invariant-loop-entry
invariant-loop-entry l = EntriesGo l.entries l.entry-index l.initial.bytes.items l.bytes.items
