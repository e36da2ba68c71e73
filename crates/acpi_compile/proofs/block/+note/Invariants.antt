use Rattle.std.proofs.Common.{length}
use Rattle.acpi_compile.proofs.block.+note.Given as goal

abbrev pub decreases-after_note : goal.decreases-after_note
decreases-after_note l = length l.kept.now
