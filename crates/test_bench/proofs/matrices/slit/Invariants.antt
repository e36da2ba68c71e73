use Rattle.std.proofs.Common.{◌≡◌}
use Rattle.test_bench.proofs.matrices.slit.Given as goal

abbrev pub invariant-rows : goal.invariant-rows
invariant-rows l = l.table.table.localities ≡ l.localities

abbrev pub invariant-cells : goal.invariant-cells
invariant-cells l = l.table.table.localities ≡ l.localities
