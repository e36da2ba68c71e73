use Rattle.std.proofs.Common.{refl}
use Rattle.acpitool_program.proofs.Layings.{table_then}
use Rattle.acpitool_program.proofs.laying.table_of.Goals as goal

pub returns-in-Some : goal.returns-in-Some
returns-in-Some g c = table_then c.args.path.now c.args.text.now _ _ _ (rw c.in-Some.is at c.in_ok-bytes.ensures)

pub returns-in-None : goal.returns-in-None
returns-in-None g c = record { text = c.args.text.now; not = rw c.in-None.is at c.in_ok-bytes.ensures; is = refl }
