use Rattle.std.proofs.Common.{All, take}
use Rattle.test_refusals.specs.Short.{IsOfSize}
use Rattle.test_refusals.proofs.short.starve_all.Given as goal

abbrev pub invariant-loop-size : goal.invariant-loop-size
invariant-loop-size g l = All (λ row. IsOfSize row.0 ((goal.Aml-dyn g row.1.now).object row.1.now.1)) (take l.size-index l.rows)
