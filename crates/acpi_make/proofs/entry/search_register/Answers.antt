use Rattle.std.proofs.Common.{[], ◌∷◌}
use Rattle.acpi_make.specs.Entry.{register_entry, register_entries}
use Rattle.acpi_make.proofs.Entries.{first_found, then_search}
use Rattle.acpi_make.proofs.entry.search_register.Goals as goal

pub returns-in-Found : goal.returns-in-Found
returns-in-Found c =
    first_found c.args.number c.args.least c.args.line.now (register_entry c.args.name.now ∷ []) register_entries c.in-Found.at _ c.in-Found.ensures

pub returns-in-Missing : goal.returns-in-Missing
returns-in-Missing c =
    then_search c.search_address.result c.args.number c.args.least c.in-Missing.next c.args.line.now (register_entry c.args.name.now ∷ []) register_entries
    c.in-Missing.ensures c.search_address.ensures
