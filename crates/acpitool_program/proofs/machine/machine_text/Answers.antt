use Rattle.acpitool_program.proofs.Machines.{text_of_all}
use Rattle.acpitool_program.proofs.machine.machine_text.Goals as goal

pub returns : goal.returns
returns c =
    text_of_all c.args.json c.args.kept.now _ _ c.in_ok-all.ensures (rw c.deref.ensures.value at c.in_ok-text.ensures)
