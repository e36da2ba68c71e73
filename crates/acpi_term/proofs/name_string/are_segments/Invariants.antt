use Rattle.std.proofs.Common.{◌≡◌, length}
use Rattle.acpi_term.specs.PathText.{are_segments}
use Rattle.acpi_term.proofs.name_string.are_segments.Given as goal

abbrev pub invariant-segments : goal.invariant-segments
invariant-segments l = are_segments l.rest ≡ are_segments l.bytes

abbrev pub decreases-segments : goal.decreases-segments
decreases-segments l = length l.rest
