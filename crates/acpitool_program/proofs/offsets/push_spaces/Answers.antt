use Rattle.std.proofs.Common.{◌-◌, arith, rules}
use Rattle.acpitool_program.proofs.Spaces.{space_added}
use Rattle.acpitool_program.proofs.offsets.push_spaces.Goals as goal

pub spaces-preserved : goal.spaces-preserved
spaces-preserved c =
    space_added c.spaces.text.items _ _ c.spaces.left (c.spaces.left - 1) (omega arith) (search rules) c.spaces.invariant
