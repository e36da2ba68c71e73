use Rattle.acpi_make.specs.Entry.{choice_entries}
use Rattle.acpi_make.proofs.Entries.{found_here, missing_here, all_searched}
use Rattle.acpi_make.proofs.entry.search_choices.Goals as goal

pub returns-in-Found : goal.returns-in-Found
returns-in-Found c =
    found_here choice_entries c.args.choices.now c.choices.choice-index c.choices.next c.args.number c.args.least c.args.line.now _
    c.in-Found.at c.in-Found.field c.choices.invariant c.choices-test.true c.in-Found.ensures

pub choices-preserved : goal.choices-preserved
choices-preserved c =
    missing_here choice_entries c.args.choices.now c.choices.choice-index c.choices.next c.args.number c.args.least c.args.line.now _
    c.in-Missing.after c.choices.invariant c.choices-test.true c.in-Missing.ensures

pub returns : goal.returns
returns c =
    all_searched choice_entries c.args.choices.now c.choices.choice-index c.choices.next c.args.number c.args.least c.args.line.now
    c.choices.invariant c.choices-test.false
