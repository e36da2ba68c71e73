use Rattle.std.proofs.Common.{◌+◌, refl}
use Rattle.acpi_text.specs.Slot.{row_slots}
use Rattle.acpi_text.proofs.Shown.{slice_rest, each_start, each_more, each_done}
use Rattle.acpi_text.proofs.slot.push_rows.Goals as goal

pub rows-init : goal.rows-init
rows-init c = each_start (row_slots c.args.depth) c.args.rows.now c.args.offset c.args.bytes.now _

pub rows-preserved : goal.rows-preserved
rows-preserved c =
    each_more (row_slots c.args.depth) c.args.rows.now c.args.offset c.args.bytes.now _
    c.rows.row-index (c.args.offset + c.rows.at) c.rows.at _ _ _ _ _ _ c.rows-test.true refl c.rows.invariant refl
    (slice_rest c.args.bytes.now c.rows.at) c.in_ok-at.ensures

pub returns : goal.returns
returns c = each_done (row_slots c.args.depth) c.args.rows.now c.args.offset c.args.bytes.now _ c.rows.row-index c.rows.at _ c.rows-test.false c.rows.invariant
