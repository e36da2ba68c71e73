use Rattle.std.proofs.Common.{rules}
use Rattle.acpitool_program.specs.declared.command.Wrong.TheVariants.{Number, Twice}
use Rattle.acpitool_program.proofs.Outcomes.{not_stated}
use Rattle.acpitool_program.proofs.show.show_all.Goals as goal

pub returns-in_ok-tell_wrong-in-Err-Word : goal.returns-in_ok-tell_wrong-in-Err-Word
returns-in_ok-tell_wrong-in-Err-Word g c =
    not_stated c.args.style _ _ (Number c.in-Err-Word.word) _ _ _ _
    (rw c.in-Err-Word.word-is at c.in_ok-tell_wrong-in-Err-Word.ensures) (search rules)

pub returns-in_ok-tell_wrong-in-Err-Twice : goal.returns-in_ok-tell_wrong-in-Err-Twice
returns-in_ok-tell_wrong-in-Err-Twice g c =
    not_stated c.args.style _ _ Twice _ _ _ _ c.in_ok-tell_wrong-in-Err-Twice.ensures (search rules)
