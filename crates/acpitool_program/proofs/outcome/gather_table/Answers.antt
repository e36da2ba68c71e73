use Rattle.acpitool_program.proofs.Outcomes.{one_gathered, one_refused}
use Rattle.acpitool_program.proofs.outcome.gather_table.Goals as goal

pub returns-in_ok-keep-in-Ok : goal.returns-in_ok-keep-in-Ok
returns-in_ok-keep-in-Ok g c = λ out. one_gathered out _ _ _ c.args.name.now c.args.bytes.now c.in-Ok.ensures.ok c.in_ok-keep-in-Ok.ensures

pub returns-in_ok-complain-in-Err : goal.returns-in_ok-complain-in-Err
returns-in_ok-complain-in-Err g c =
    let line = c.in_ok-complain-in-Err.ensures in
    λ out. one_refused _ out _ _ _ c.args.name.now c.args.bytes.now _ line.0 c.in-Err.ensures.err line.1 line.2
