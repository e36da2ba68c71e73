use Rattle.std.proofs.Common.{take}
use Rattle.acpi_base.specs.Sink.{Took}
use Rattle.acpi_nodes.specs.Entries.{records_joined}
use Rattle.acpi_nodes.proofs.entries.write_with_entries.Given as goal

abbrev pub invariant-loop-entry : goal.invariant-loop-entry
invariant-loop-entry g l =
    Took ((goal.AmlSink-dyn g l.initial.sink.now).meaning l.initial.sink.now.1) (records_joined g.T.Record.fields (take l.entry-index l.entries)) ((goal.AmlSink-dyn g l.sink.now).meaning l.sink.now.1)
