use Rattle.acpi_read.proofs.Fronts.{SegmentsRead}
use Rattle.acpi_read.proofs.terms.name.segments.Given as goal

abbrev pub invariant-segments : goal.invariant-segments
invariant-segments l = SegmentsRead l.count l.counter l.bytes l.rest
