-- Exit statuses.
use Rattle.std.specs.Prelude.{ℕ}
use Rattle.test_bench.specs.declared.fault.Fault.{Fault}
use Rattle.test_bench.specs.declared.fault.Fault.TheVariants.{Word}

abbrev pub status_of : Fault → ℕ
status_of (Word word) = 2
status_of _ = 1
