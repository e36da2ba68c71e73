use Rattle.std.proofs.Common.{◌∙◌, sym}
use Rattle.acpi_make.specs.Entry.{parts_entries, inner_entries}
use Rattle.acpi_make.proofs.Entries.{first_found, first_missing}
use Rattle.acpi_make.proofs.entry.search_both.Goals as goal

pub returns-in-Found : goal.returns-in-Found
returns-in-Found c =
    sym (first_found 0 c.args.least c.args.line.now (parts_entries c.args.parts.now) (inner_entries c.args.inner.now) c.in-Found.at _ c.in-Found.ensures)

pub returns-in-Found-search_inner : goal.returns-in-Found-search_inner
returns-in-Found-search_inner c =
    sym (first_missing 0 c.args.least c.args.line.now (parts_entries c.args.parts.now) (inner_entries c.args.inner.now) c.in-Missing.next c.in-Missing.ensures
    ∙ c.in-Found-search_inner.ensures)

pub returns-in-Missing-search_inner : goal.returns-in-Missing-search_inner
returns-in-Missing-search_inner c =
    let none = c.in-Missing-search_inner.ensures in
    sym (first_missing 0 c.args.least c.args.line.now (parts_entries c.args.parts.now) (inner_entries c.args.inner.now) c.in-Missing.next c.in-Missing.ensures
    ∙ none.1)
