use Rattle.acpi_base.specs.Fields.{fields_joined}
use Rattle.acpi_base.proofs.Sinks.{took_more}
use Rattle.acpi_nodes.proofs.EntryLists.{refused_after, took_next_entry, refused_at_entry, took_entries}
use Rattle.acpi_nodes.proofs.entries.write_with_entries.Goals as goal

pub returns-in_err-vec-clause-err : goal.returns-in_err-vec-clause-err
returns-in_err-vec-clause-err g c =
    refused_after _ _ _ _ _ _ c.in_ok-write_parts.ensures.ok
    (refused_at_entry (λ r. fields_joined (g.T.Record.fields r)) _ _ _ c.loop-entry-test.true c.entry-item.is _ _ _ _ _ c.from_residual-in_err-vec.ensures.1 c.loop-entry.invariant (rw (← c.bytes.ensures) c.in_err-vec.ensures.1))

pub loop-entry-preserved : goal.loop-entry-preserved
loop-entry-preserved g c =
    took_next_entry (λ r. fields_joined (g.T.Record.fields r)) _ _ _ c.loop-entry-test.true c.entry-item.is _ _ _ c.loop-entry.invariant (rw (← c.bytes.ensures) c.in_ok-vec.ensures.0)

pub returns-clause-ok : goal.returns-clause-ok
returns-clause-ok g c = took_more _ _ _ _ _ c.in_ok-write_parts.ensures.ok (took_entries (λ r. fields_joined (g.T.Record.fields r)) _ _ _ _ c.loop-entry-test.false c.loop-entry.invariant)
