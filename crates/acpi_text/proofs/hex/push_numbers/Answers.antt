use Rattle.std.proofs.Common.{◌-◌, length, arith}
use Rattle.acpi_text.proofs.Numbers.{one_fits, numbers_go_on}
use Rattle.acpi_text.proofs.hex.push_numbers.Goals as goal

pub split_at-requires : goal.split_at-requires
split_at-requires c = (one_fits c.args.width c.numbers.left (c.numbers.left - 1) (length c.numbers.rest.now) (omega arith) c.numbers.invariant.size).0

pub numbers-preserved : goal.numbers-preserved
numbers-preserved c =
    let fits = one_fits c.args.width c.numbers.left (c.numbers.left - 1) (length c.numbers.rest.now) (omega arith) c.numbers.invariant.size in
    record {
      size = omega (arith, fits.0, fits.1);
      parts = numbers_go_on c.args.width c.numbers.left _ _ _ _ _ _ _ (omega arith) c.split_at.ensures.front c.split_at.ensures.back c.numbers.invariant.parts c.in_ok-push_number.ensures;
    }
