use Rattle.std.proofs.Common.{length}
use Rattle.acpi_read.proofs.Fronts.{AboveRead}
use Rattle.acpi_read.proofs.terms.name.above.Given as goal

abbrev pub invariant-above : goal.invariant-above
invariant-above l = AboveRead l.bytes l.rest

abbrev pub decreases-above : goal.decreases-above
decreases-above l = length l.rest
