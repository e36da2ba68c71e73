use Rattle.std.proofs.Common.{◌≡◌, ◌+◌, ◌-◌, get_or, arith, rules}
use Rattle.acpi_asl.proofs.Items.{digits_written}
use Rattle.acpi_asl.proofs.content.+digits.Goals as goal

pub returns : goal.returns
returns t c =
    let is : c.byte_at.result ≡ get_or c.args.item.now (c.args.offset + (c.args.width - 1)) 0 = search rules in
    digits_written c.args.width c.args.offset c.args.item.now c.byte_at.result _ _ _ (omega (arith, c.if-width-eq0.false)) is c.in_ok-push_upper_byte.ensures c.in_ok-push_digits_at.ensures
