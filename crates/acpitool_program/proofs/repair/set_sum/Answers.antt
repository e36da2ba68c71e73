use Rattle.std.proofs.Common.{arith}
use Rattle.acpitool_program.proofs.Repairs.{set_byte}
use Rattle.acpitool_program.proofs.repair.set_sum.Goals as goal

pub returns : goal.returns
returns c = set_byte c.args.at c.args.count _ _ _ _ _ c.write_at.ensures (omega (arith, c.add.ensures.value, c.new-sum.ensures.value)) c.checksum.ensures c.write_at-2.ensures
