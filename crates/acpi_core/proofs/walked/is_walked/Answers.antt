use Rattle.acpi_core.proofs.Kept.{is_true, is_walked}
use Rattle.acpi_core.proofs.Calls.{is_after_its_calls, holds_nodes}
use Rattle.acpi_core.proofs.walked.is_walked.Goals as goal

pub returns-clause-keeps : goal.returns-clause-keeps
returns-clause-keeps g c = rw (← c.table.view_is) c.table.invariant

pub returns-clause-is_true : goal.returns-clause-is_true
returns-clause-is_true g c = rw (← c.table.view_is) (is_true g.K.Kind.ported g.K.Kind.walk g.K.Kind.limit g.K.Kind.closed _ c.table.invariant)

pub returns-clause-walked : goal.returns-clause-walked
returns-clause-walked g c = rw (← c.table.view_is) (is_walked g.K.Kind.ported g.K.Kind.walk g.K.Kind.limit g.K.Kind.closed _ c.table.invariant)

pub returns-clause-calls : goal.returns-clause-calls
returns-clause-calls g c = rw (← c.table.view_is) (λ pieces first none.
    is_after_its_calls g.K.Kind.ported g.K.Kind.walk first _ none c.table.invariant.is
    (is_walked g.K.Kind.ported g.K.Kind.walk g.K.Kind.limit g.K.Kind.closed _ c.table.invariant pieces))

pub returns-clause-nodes : goal.returns-clause-nodes
returns-clause-nodes g c = rw (← c.table.view_is) (holds_nodes _ c.table.invariant.is)
