use Rattle.std.proofs.Common.{◌+◌, refl, arith}
use Rattle.acpi_text.specs.Form.{group_slots}
use Rattle.acpi_text.proofs.Shown.{slice_rest, again, again_done}
use Rattle.acpi_text.proofs.part.push_entries.Goals as goal

pub entries-preserved : goal.entries-preserved
entries-preserved c = record {
  few = omega arith;
  shown = again (group_slots c.args.depth c.args.name.now c.args.rows.now) c.args.offset c.args.bytes.now _ c.entries.done (c.args.offset + c.entries.at) c.entries.at _ _ _ _ c.entries.invariant.shown refl (slice_rest c.args.bytes.now c.entries.at) c.in_ok-at.ensures;
}

pub returns-else-at-bytes : goal.returns-else-at-bytes
returns-else-at-bytes c = again_done (group_slots c.args.depth c.args.name.now c.args.rows.now) c.args.offset c.args.bytes.now _ c.entries.done c.args.count c.entries.at _ c.entries.invariant.few (λ less. omega (arith, c.entries.invariant.shown.within)) c.entries.invariant.shown
