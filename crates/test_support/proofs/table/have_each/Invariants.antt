use Rattle.std.proofs.Common.{All, take}
use Rattle.test_support.specs.Expected.{AreAt}
use Rattle.test_support.proofs.table.have_each.Given as goal

abbrev pub invariant-loop-offset : goal.invariant-loop-offset
invariant-loop-offset l = All (λ row. AreAt row.0 row.1.now l.bytes) (take l.offset-index l.rows)
