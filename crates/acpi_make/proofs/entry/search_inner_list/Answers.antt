use Rattle.acpi_make.specs.Entry.{inner_form_entries}
use Rattle.acpi_make.proofs.Entries.{found_here, missing_here, all_searched}
use Rattle.acpi_make.proofs.entry.search_inner_list.Goals as goal

pub returns-in-Found : goal.returns-in-Found
returns-in-Found c =
    found_here inner_form_entries c.args.list.now.forms.now c.forms.form-index c.forms.next c.args.number c.args.least c.args.line.now _
    c.in-Found.at c.in-Found.field c.forms.invariant c.forms-test.true c.in-Found.ensures

pub forms-preserved : goal.forms-preserved
forms-preserved c =
    missing_here inner_form_entries c.args.list.now.forms.now c.forms.form-index c.forms.next c.args.number c.args.least c.args.line.now _
    c.in-Missing.after c.forms.invariant c.forms-test.true c.in-Missing.ensures

pub returns : goal.returns
returns c =
    all_searched inner_form_entries c.args.list.now.forms.now c.forms.form-index c.forms.next c.args.number c.args.least c.args.line.now
    c.forms.invariant c.forms-test.false
