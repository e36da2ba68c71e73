use Rattle.std.proofs.Common.{◌+◌, refl}
use Rattle.acpi_rules.specs.Field.{row_wanted}
use Rattle.acpi_rules.proofs.Found.{slice_rest, each_start, each_more, each_done}
use Rattle.acpi_rules.proofs.field.push_rows.Goals as goal

pub rows-init : goal.rows-init
rows-init c = each_start row_wanted c.args.rows.now c.args.at c.args.bytes.now _

pub rows-preserved : goal.rows-preserved
rows-preserved c =
    each_more row_wanted c.args.rows.now c.args.at c.args.bytes.now _
    c.rows.row-index (c.args.at + c.rows.read) c.rows.read _ _ _ _ _ _ c.rows-test.true refl c.rows.invariant refl
    (slice_rest c.args.bytes.now c.rows.read) c.in_ok-read.ensures

pub returns : goal.returns
returns c = each_done row_wanted c.args.rows.now c.args.at c.args.bytes.now _ c.rows.row-index c.rows.read _ c.rows-test.false
    c.rows.invariant
