use Rattle.std.proofs.Common.{[], ◌∷◌}
use Rattle.acpi_make.specs.Entry.{row_entry}
use Rattle.acpi_make.proofs.Entries.{Unsearched}
use Rattle.acpi_make.proofs.entry.search_row_fields.Given as goal

abbrev pub invariant-rows : goal.invariant-rows
invariant-rows l = Unsearched (λ row. row_entry row ∷ []) l.rows l.row-index l.next l.number l.least l.line
