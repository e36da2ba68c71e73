use Rattle.acpi_core.proofs.Numbers.{closed_number, told_number_of}
use Rattle.acpi_core.proofs.walked.Walked.count.Goals as goal

pub returns-clause-closed : goal.returns-clause-closed
returns-clause-closed g c = rw (← c.self.view_is) (closed_number g.K.Kind.ported g.K.Kind.walk g.K.Kind.limit g.K.Kind.closed _ _ c.self.invariant c.count.ensures)

pub returns-clause-counted : goal.returns-clause-counted
returns-clause-counted g c = rw (← c.self.view_is) (told_number_of g.K.Kind.ported g.K.Kind.walk g.K.Kind.limit g.K.Kind.closed _ _ c.self.invariant c.count.ensures)
