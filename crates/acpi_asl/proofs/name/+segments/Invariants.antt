use Rattle.std.proofs.Common.{◌+◌, ◌*◌, length}
use Rattle.acpi_asl.proofs.name.+segments.Given as goal

abbrev pub decreases-push_segments : goal.decreases-push_segments
decreases-push_segments l = 2 * length l.segments.now

abbrev pub decreases-push_further_segments : goal.decreases-push_further_segments
decreases-push_further_segments l = 2 * length l.segments.now + 1
