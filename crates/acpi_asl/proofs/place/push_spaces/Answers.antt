use Rattle.std.proofs.Common.{rules}
use Rattle.acpi_asl.proofs.Pieces.{spaces_more}
use Rattle.acpi_asl.proofs.place.push_spaces.Goals as goal

pub levels-preserved : goal.levels-preserved
levels-preserved c = spaces_more c.levels._level _ _ _ c.levels.invariant (search rules)
