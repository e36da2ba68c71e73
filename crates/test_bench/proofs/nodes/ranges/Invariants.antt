use Rattle.std.proofs.Common.{◌≡◌, ◌+◌, length}
use Rattle.test_bench.proofs.nodes.ranges.Given as goal

abbrev pub invariant-fill : goal.invariant-fill
invariant-fill l = length l.table.table.table.structures ≡ l.number + 1
