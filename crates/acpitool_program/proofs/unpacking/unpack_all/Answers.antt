use Rattle.acpitool_program.proofs.Unpacked.{none_yet, one_more, all_done}
use Rattle.acpitool_program.proofs.unpacking.unpack_all.Goals as goal

pub tables-init : goal.tables-init
tables-init g c = none_yet (λ table. table.now) _ _ _ _

pub tables-preserved : goal.tables-preserved
tables-preserved g c =
    one_more (λ table. table.now) c.args.folder.now c.args.tables.now _ _ c.tables.i _ _ _ _ _ _ _ _ c.tables-test.true c.worst_of-worst.ensures
    c.tables.invariant c.in_ok-status.ensures

pub returns : goal.returns
returns g c = all_done (λ table. table.now) _ c.args.tables.now _ _ _ _ _ _ c.tables-test.false c.tables.invariant
