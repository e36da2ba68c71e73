use Rattle.std.proofs.Common.{arith, rules}
use Rattle.acpi_text.proofs.Slots.{nameless_goes_on}
use Rattle.acpi_text.proofs.slot.push_nameless.Goals as goal

pub lines-preserved : goal.lines-preserved
lines-preserved c = record {
  fits = omega (arith, c.split_at.ensures.front_len, c.split_at.ensures.back_len, c.lines.invariant.fits);
  parts = nameless_goes_on c.lines.at c.line_size.result c.lines.rest.now _ _ _ _ _ (search rules) c.line_size.ensures c.split_at.ensures.front c.split_at.ensures.back c.lines.invariant.parts c.in_ok-push_line.ensures;
}
