use Rattle.std.proofs.Common.{take}
use Rattle.std.specs.List.{flat_map}
use Rattle.acpi_base.specs.Sink.{Took}
use Rattle.acpi_base.proofs.parts.write_parts.Given as goal

abbrev pub invariant-loop-part : goal.invariant-loop-part
invariant-loop-part g l =
    Took ((goal.AmlSink-dyn g l.initial.sink.now).meaning l.initial.sink.now.1) (flat_map (λ part. part.now) (take l.part-index l.parts)) ((goal.AmlSink-dyn g l.sink.now).meaning l.sink.now.1)
