use Rattle.std.proofs.Common.{◌≡◌, ◌%◌, ◌-◌, length}
use Rattle.acpitool_program.proofs.Pointers.{NoneBefore}
use Rattle.acpitool_program.proofs.image.find_pointer.Given as goal

abbrev pub invariant-steps : goal.invariant-steps
invariant-steps l = (l.at % 16 ≡ 0) × NoneBefore l.size l.bytes l.at

abbrev pub decreases-steps : goal.decreases-steps
decreases-steps l = length l.bytes - l.at
