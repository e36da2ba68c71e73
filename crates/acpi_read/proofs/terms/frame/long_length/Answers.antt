use Rattle.std.proofs.Common.{arith}
use Rattle.acpi_read.proofs.Numbers.{long_small}
use Rattle.acpi_read.proofs.terms.frame.long_length.Goals as goal

pub overflow_cast-result : goal.overflow_cast-result
overflow_cast-result c = omega (arith, long_small c.args.following c.in_ok-high.high c.requires.upper c.in_ok-high.ensures.below)

pub overflow_mul-result : goal.overflow_mul-result
overflow_mul-result c = omega (arith, long_small c.args.following c.in_ok-high.high c.requires.upper c.in_ok-high.ensures.below)

pub overflow_add-result-2 : goal.overflow_add-result-2
overflow_add-result-2 c = omega (arith, c.if-low-ge16.false, long_small c.args.following c.in_ok-high.high c.requires.upper c.in_ok-high.ensures.below)
