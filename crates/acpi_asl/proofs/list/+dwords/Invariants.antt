use Rattle.std.proofs.Common.{length}
use Rattle.acpi_asl.proofs.list.+dwords.Given as goal

abbrev pub decreases-push_dwords : goal.decreases-push_dwords
decreases-push_dwords l = length l.bytes.now
