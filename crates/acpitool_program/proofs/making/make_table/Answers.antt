use Rattle.std.proofs.Common.{inr}
use Rattle.acpitool_program.proofs.Judged.{no_table}
use Rattle.acpitool_program.proofs.making.make_table.Goals as goal

pub returns-in-None : goal.returns-in-None
returns-in-None g c = inr (no_table (λ bytes. bytes.items) _ c.args.making.now.force _ _ _ _ _ c.in-None.is c.in_ok-bytes.ensures)
