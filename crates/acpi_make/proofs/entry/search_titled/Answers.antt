use Rattle.std.proofs.Common.{[], ◌∷◌}
use Rattle.acpi_make.specs.Entry.{title_entry, rows_entries}
use Rattle.acpi_make.proofs.Entries.{first_found, then_search}
use Rattle.acpi_make.proofs.entry.search_titled.Goals as goal

pub returns-in-Found : goal.returns-in-Found
returns-in-Found c =
    first_found c.args.number c.args.least c.args.line.now (title_entry c.args.name.now ∷ []) (rows_entries c.args.rows.now) c.in-Found.at _ c.in-Found.ensures

pub returns-in-Missing : goal.returns-in-Missing
returns-in-Missing c =
    then_search c.search_rows.result c.args.number c.args.least c.in-Missing.next c.args.line.now (title_entry c.args.name.now ∷ []) (rows_entries c.args.rows.now)
    c.in-Missing.ensures c.search_rows.ensures
