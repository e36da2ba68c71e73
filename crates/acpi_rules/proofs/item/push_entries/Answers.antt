use Rattle.std.proofs.Common.{arith}
use Rattle.acpi_rules.specs.Demand.{spot_by}
use Rattle.acpi_rules.specs.Item.{part_items}
use Rattle.acpi_rules.proofs.Entries.{entry_added}
use Rattle.acpi_rules.proofs.item.push_entries.Goals as goal

pub entries-preserved : goal.entries-preserved
entries-preserved c = record {
  fits = omega (arith, c.entries.invariant.fits, c.split_at.ensures.back_len, c.entries-test.true);
  found = entry_added (part_items c.args.among.now (spot_by c.args.spot.now)) c.entries.left c.args.size c.entries.at
      c.entries.rest.now _ _ _ _ _ (omega (arith, c.entries-test.true)) (omega (arith, c.entries-test.true))
      c.split_at.ensures.front c.split_at.ensures.back c.entries.invariant.found c.in_ok-push_part.ensures;
}
