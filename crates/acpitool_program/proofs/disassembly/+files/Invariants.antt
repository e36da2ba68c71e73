use Rattle.std.proofs.Common.{length}
use Rattle.acpitool_program.proofs.disassembly.+files.Given as goal

abbrev pub decreases-add_files : goal.decreases-add_files
decreases-add_files g l = length l.files.now
