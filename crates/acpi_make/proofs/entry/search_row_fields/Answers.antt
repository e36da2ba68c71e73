use Rattle.std.proofs.Common.{[], ◌∷◌}
use Rattle.acpi_make.specs.Entry.{row_entry}
use Rattle.acpi_make.proofs.Entries.{found_here, missing_here, all_searched}
use Rattle.acpi_make.proofs.entry.search_row_fields.Goals as goal

pub returns-in-Found : goal.returns-in-Found
returns-in-Found c =
    found_here (λ row. row_entry row ∷ []) c.args.rows.now c.rows.row-index c.rows.next c.args.number c.args.least c.args.line.now _
    c.in-Found.at c.in-Found.field c.rows.invariant c.rows-test.true c.in-Found.ensures

pub rows-preserved : goal.rows-preserved
rows-preserved c =
    missing_here (λ row. row_entry row ∷ []) c.args.rows.now c.rows.row-index c.rows.next c.args.number c.args.least c.args.line.now _
    c.in-Missing.after c.rows.invariant c.rows-test.true c.in-Missing.ensures

pub returns : goal.returns
returns c =
    all_searched (λ row. row_entry row ∷ []) c.args.rows.now c.rows.row-index c.rows.next c.args.number c.args.least c.args.line.now
    c.rows.invariant c.rows-test.false
