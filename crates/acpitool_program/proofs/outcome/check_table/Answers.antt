use Rattle.std.proofs.Common.{◌∙◌, ap, map}
use Rattle.acpi_rules.specs.Finding.{noted}
use Rattle.acpitool_program.specs.Checked.{printed_findings}
use Rattle.acpitool_program.proofs.Outcomes.{one_checked, one_refused}
use Rattle.acpitool_program.proofs.outcome.check_table.Goals as goal

pub returns-in_ok-keep-in-Ok : goal.returns-in_ok-keep-in-Ok
returns-in_ok-keep-in-Ok g c =
    one_checked c.args.json _ _ _ _ _ _ c.args.name.now c.args.bytes.now _ _ _ _
    c.in-Ok.ensures.ok
    (c.deref-in-Ok.ensures.value ∙ c.in_ok-lines-in-Ok.ensures
    ∙ ap (λ found. printed_findings c.args.json c.args.name.now c.args.bytes.now (map noted found)) c.deref.ensures.value)
    (rw c.in_ok-fault-in-Ok.fault-is at c.in_ok-fault-in-Ok.ensures)
    c.in_ok-write_all-in-Ok.ensures.bytes c.in_ok-told-in-Ok.ensures.line c.in_ok-keep-in-Ok.ensures
    (rw (c.status_of.ensures, c.deref-in-Ok-2.ensures.value, c.in_ok-told-in-Ok.ensures.is) at c.worst_of.ensures)

pub returns-in_ok-complain-in-Err : goal.returns-in_ok-complain-in-Err
returns-in_ok-complain-in-Err g c =
    let line = c.in_ok-complain-in-Err.ensures in
    one_refused _ _ _ _ _ c.args.name.now c.args.bytes.now _ line.0 c.in-Err.ensures.err line.1 line.2
