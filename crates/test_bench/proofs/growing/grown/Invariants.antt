use Rattle.std.proofs.Common.{◌≡◌, ◌*◌}
use Rattle.test_bench.proofs.growing.grown.Given as goal

abbrev pub invariant-fill : goal.invariant-fill
invariant-fill g l = g.T.Growing.structures l.table ≡ g.T.Growing.each * l.number
