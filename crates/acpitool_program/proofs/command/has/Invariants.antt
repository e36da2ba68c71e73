use Rattle.std.proofs.Common.{◌≡◌, drop}
use Rattle.acpitool_program.specs.Command.{has}
use Rattle.acpitool_program.proofs.command.has.Given as goal

abbrev pub invariant-bytes : goal.invariant-bytes
invariant-bytes l = has l.byte (drop l.other-index l.word) ≡ has l.byte l.word
