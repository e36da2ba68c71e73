use Rattle.std.proofs.Common.{length}
use Rattle.acpi_asl.proofs.list.+pairs.Given as goal

abbrev pub decreases-push_pairs : goal.decreases-push_pairs
decreases-push_pairs l = length l.bytes.now
