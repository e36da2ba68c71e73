use Rattle.std.proofs.Common.{map, take}
use Rattle.acpi_base.specs.Object.{all_of, Wrote}
use Rattle.acpi_hest.proofs.hest.error_data.write_all.Given as goal

abbrev pub invariant-loop-part : goal.invariant-loop-part
invariant-loop-part g l =
    Wrote (all_of (map (λ part. (goal.Aml-dyn g (part.vtable, part.value)).object part.value) (take l.part-index l.part-items)))
    ((goal.AmlSink-dyn g l.initial.sink.now).meaning l.initial.sink.now.1) ((goal.AmlSink-dyn g l.sink.now).meaning l.sink.now.1)
