use Rattle.std.proofs.Common.{rules}
use Rattle.acpitool_program.proofs.Outcomes.{as_these, dump_tables, one_broken}
use Rattle.acpitool_program.proofs.outcome.visit_dump.Goals as goal

pub returns-in_ok-visit_tables-in-Ok : goal.returns-in_ok-visit_tables-in-Ok
returns-in_ok-visit_tables-in-Ok g c =
    as_these (dump_tables c.args.name.now c.args.dump.now c.in-Ok.tables.items c.in-Ok.ensures.ok)
    (rw c.deref.ensures.value at c.in_ok-visit_tables-in-Ok.ensures)

pub returns-in_ok-complain-in-Err : goal.returns-in_ok-complain-in-Err
returns-in_ok-complain-in-Err g c =
    let line = c.in_ok-complain-in-Err.ensures in
    one_broken _ _ _ _ _ c.args.name.now c.args.dump.now line.0 c.in-Err.fault (search rules) line.1 line.2
