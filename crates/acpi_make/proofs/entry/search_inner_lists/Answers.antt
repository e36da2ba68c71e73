use Rattle.acpi_make.specs.Entry.{inner_list_entries}
use Rattle.acpi_make.proofs.Entries.{found_here, missing_here, all_searched}
use Rattle.acpi_make.proofs.entry.search_inner_lists.Goals as goal

pub returns-in-Found : goal.returns-in-Found
returns-in-Found c =
    found_here inner_list_entries c.args.lists.now c.lists.list-index c.lists.next c.args.number c.args.least c.args.line.now _
    c.in-Found.at c.in-Found.field c.lists.invariant c.lists-test.true c.in-Found.ensures

pub lists-preserved : goal.lists-preserved
lists-preserved c =
    missing_here inner_list_entries c.args.lists.now c.lists.list-index c.lists.next c.args.number c.args.least c.args.line.now _
    c.in-Missing.after c.lists.invariant c.lists-test.true c.in-Missing.ensures

pub returns : goal.returns
returns c =
    all_searched inner_list_entries c.args.lists.now c.lists.list-index c.lists.next c.args.number c.args.least c.args.line.now
    c.lists.invariant c.lists-test.false
