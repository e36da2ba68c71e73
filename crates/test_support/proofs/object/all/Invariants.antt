use Rattle.std.proofs.Common.{All, take}
use Rattle.acpi_base.specs.Object.{Built}
use Rattle.test_support.proofs.object.all.Given as goal

abbrev pub invariant-loop-aml : goal.invariant-loop-aml
invariant-loop-aml g l = All (λ row. Built ((goal.Aml-dyn g row.0.now).object row.0.now.1) row.1.now) (take l.aml-index l.rows)
