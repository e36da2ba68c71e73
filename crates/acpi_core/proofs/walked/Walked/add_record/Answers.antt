use Rattle.std.proofs.Common.{rules}
use Rattle.acpi_core.proofs.Kept.{keeps_record}
use Rattle.acpi_core.proofs.walked.Walked.add_record.Goals as goal

pub invariant_of-self : goal.invariant_of-self
invariant_of-self g c = keeps_record g.K.Kind.ported g.K.Kind.walk g.K.Kind.limit g.K.Kind.closed _ _ _ _ _ _ c.self.invariant c.requires.piece c.bytes.ensures (search rules) c.add.ensures
