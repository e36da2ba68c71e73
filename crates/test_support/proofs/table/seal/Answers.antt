use Rattle.std.proofs.Common.{arith}
use Rattle.test_support.proofs.Checked.{checksum_set}
use Rattle.test_support.proofs.table.seal.Goals as goal

pub returns : goal.returns
returns c =
    checksum_set c.args.table.now c.write_at.new.bytes c.write_at-2.new.bytes c.checksum_of-checksum.result (omega (arith, c.requires))
    c.write_at.ensures c.checksum_of-checksum.ensures c.write_at-2.ensures
