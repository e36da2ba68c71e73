use Rattle.std.proofs.Common.{arith}
use Rattle.acpi_text.proofs.Numbers.{digits_go_on}
use Rattle.acpi_json.proofs.string.push_number_digits.Goals as goal

pub digits-preserved : goal.digits-preserved
digits-preserved c = record {
  within = omega arith;
  parts = digits_go_on c.args.bytes.now c.digits.left _ _ _ _ (omega arith) (omega arith) c.digits.invariant.parts
      c.in_ok-push_hex.ensures;
}
