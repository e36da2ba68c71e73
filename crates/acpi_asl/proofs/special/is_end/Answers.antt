use Rattle.std.proofs.Common.{arith}
use Rattle.acpi_asl.proofs.Externals.{not_end}
use Rattle.acpi_asl.proofs.special.is_end.Goals as goal

pub returns-in-len1-up : goal.returns-in-len1-up
returns-in-len1-up c = not_end c.args.terms.now (omega (arith, c.in-len1-up.len_at_least))
