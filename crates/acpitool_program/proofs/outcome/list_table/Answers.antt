use Rattle.std.proofs.Common.{[], rules}
use Rattle.acpitool_program.proofs.Outcomes.{is_printed, one_listed, one_refused}
use Rattle.acpitool_program.proofs.outcome.list_table.Goals as goal

pub returns-in_ok-tell_fault-in-Ok : goal.returns-in_ok-tell_fault-in-Ok
returns-in_ok-tell_fault-in-Ok g c =
    one_listed _ _ _ _ c.args.name.now c.args.bytes.now _ _ _ _
    c.in-Ok.ensures.ok (search rules) (rw c.in_ok-fault-in-Ok.fault-is at c.in_ok-fault-in-Ok.ensures)
    c.in_ok-write_all-in-Ok.ensures.bytes c.in_ok-tell_fault-in-Ok.ensures.line c.in_ok-tell_fault-in-Ok.ensures.is

pub returns-in_ok-complain-in-Err : goal.returns-in_ok-complain-in-Err
returns-in_ok-complain-in-Err g c =
    let line = c.in_ok-complain-in-Err.ensures in
    is_printed (one_refused _ _ _ _ [] c.args.name.now c.args.bytes.now _ line.0 c.in-Err.ensures.err line.1 line.2)
