use Rattle.std.proofs.Common.{subst}
use Rattle.acpi_aml.specs.Laws.{UuidMeans}
use Rattle.acpi_aml.proofs.Meanings.{buffers_mean}
use Rattle.acpi_aml.proofs.laws.uuid_means.Goals as goal

pub returns : goal.returns
returns c = subst UuidMeans c.uuid.view_is (λ arity. buffers_mean arity c.uuid.inside.bytes c.uuid.invariant.are)
