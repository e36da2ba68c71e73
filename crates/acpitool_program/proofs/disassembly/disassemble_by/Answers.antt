use Rattle.std.proofs.Common.{inr, rules}
use Rattle.acpitool_program.specs.declared.command.Wrong.TheVariants.{Number, Twice}
use Rattle.acpitool_program.proofs.Outcomes.{unstated}
use Rattle.acpitool_program.proofs.disassembly.disassemble_by.Goals as goal

pub returns-in_ok-tell_wrong-in-Err-Word : goal.returns-in_ok-tell_wrong-in-Err-Word
returns-in_ok-tell_wrong-in-Err-Word g c =
    inr (unstated _ (Number c.in-Err-Word.word) _ _ _ _ (rw c.in-Err-Word.word-is at c.in_ok-tell_wrong-in-Err-Word.ensures) (search rules))

pub returns-in_ok-tell_wrong-in-Err-Twice : goal.returns-in_ok-tell_wrong-in-Err-Twice
returns-in_ok-tell_wrong-in-Err-Twice g c =
    inr (unstated _ Twice _ _ _ _ c.in_ok-tell_wrong-in-Err-Twice.ensures (search rules))
