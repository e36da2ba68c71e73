use Rattle.std.proofs.Common.{◌+◌, refl, arith}
use Rattle.acpi_rules.specs.Field.{rows_wanted}
use Rattle.acpi_rules.proofs.Found.{slice_rest, again, again_done}
use Rattle.acpi_rules.proofs.part.push_entries.Goals as goal

pub entries-preserved : goal.entries-preserved
entries-preserved c = record {
  few = omega arith;
  found = again (rows_wanted c.args.rows.now) c.args.at c.args.bytes.now _ c.entries.done (c.args.at + c.entries.read)
      c.entries.read _ _ _ _ c.entries.invariant.found refl (slice_rest c.args.bytes.now c.entries.read) c.in_ok-read.ensures;
}

pub returns-else-read-bytes : goal.returns-else-read-bytes
returns-else-read-bytes c = again_done (rows_wanted c.args.rows.now) c.args.at c.args.bytes.now _ c.entries.done c.args.count
    c.entries.read _ c.entries.invariant.few (λ less. omega (arith, c.entries.invariant.found.within)) c.entries.invariant.found
