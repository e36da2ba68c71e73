use denote.Enum.Bare.{same_true, true_same}
use Rattle.acpi_term.specs.contracts.op.Op.{the_type}
use Rattle.acpi_term.proofs.derived.equal_values_are_the_same.Goals as goal

pub returns-clause-op : goal.returns-clause-op
returns-clause-op c = λ a b. (same_true the_type tt a b, true_same the_type a b)
