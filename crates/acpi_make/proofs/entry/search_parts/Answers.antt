use Rattle.acpi_make.specs.Entry.{part_entries}
use Rattle.acpi_make.proofs.Entries.{found_here, missing_here, all_searched}
use Rattle.acpi_make.proofs.entry.search_parts.Goals as goal

pub returns-in-Found : goal.returns-in-Found
returns-in-Found c =
    found_here part_entries c.args.parts.now c.parts.part-index c.parts.next c.args.number c.args.least c.args.line.now _
    c.in-Found.at c.in-Found.field c.parts.invariant c.parts-test.true c.in-Found.ensures

pub parts-preserved : goal.parts-preserved
parts-preserved c =
    missing_here part_entries c.args.parts.now c.parts.part-index c.parts.next c.args.number c.args.least c.args.line.now _
    c.in-Missing.after c.parts.invariant c.parts-test.true c.in-Missing.ensures

pub returns : goal.returns
returns c =
    all_searched part_entries c.args.parts.now c.parts.part-index c.parts.next c.args.number c.args.least c.args.line.now
    c.parts.invariant c.parts-test.false
