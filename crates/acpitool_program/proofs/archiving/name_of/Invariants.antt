use Rattle.std.proofs.Common.{◌≡◌, ◌≤◌, false, drop, length}
use Rattle.acpitool_program.specs.Command.{has}
use Rattle.acpitool_program.proofs.archiving.name_of.Given as goal

abbrev pub invariant-steps : goal.invariant-steps
invariant-steps l = record {
  within : l.start ≤ length l.path;
  none : has 47 (drop l.start l.path) ≡ false;
}

abbrev pub decreases-steps : goal.decreases-steps
decreases-steps l = l.start
