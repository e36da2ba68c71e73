use Rattle.acpi_core.proofs.Kept.{keeps_on}
use Rattle.acpi_core.proofs.walked.Walked.add_object.Goals as goal

pub invariant_of-self : goal.invariant_of-self
invariant_of-self g c = keeps_on g.K.Kind.ported g.K.Kind.walk g.K.Kind.limit g.K.Kind.closed _ _ _ _ c.self.invariant c.requires c.add_object.ensures
