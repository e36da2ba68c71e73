use Rattle.std.proofs.Common.{subst, arith}
use Rattle.acpi_aml.specs.Laws.{EisaNameMeans}
use Rattle.acpi_aml.proofs.Meanings.{numbers_mean}
use Rattle.acpi_aml.proofs.laws.eisa_name_means.Goals as goal

pub returns : goal.returns
returns c = subst EisaNameMeans c.id.view_is (λ arity. numbers_mean arity c.id.inside.value (omega (arith, c.id.invariant)))
