use Rattle.std.proofs.Common.{◌-◌, arith}
use Rattle.acpi_json.proofs.Numbers.{numbers_go_on}
use Rattle.acpi_json.proofs.number.push_numbers.Goals as goal

pub numbers-preserved : goal.numbers-preserved
numbers-preserved c =
    numbers_go_on c.numbers.first c.args.width c.numbers.left (c.numbers.left - 1) c.numbers.rest.now _ _ _ _ _ _ (omega arith)
    c.split_within.ensures.front c.split_within.ensures.rest c.numbers.invariant c.in_ok-push_separator.ensures
    c.in_ok-push_number.ensures
