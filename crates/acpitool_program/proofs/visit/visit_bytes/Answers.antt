use Rattle.std.proofs.Common.{List, inr}
use Rattle.acpitool_program.proofs.Outcomes.{as_these, file_bytes, if_err, one_unread}
use Rattle.acpitool_program.specs.Outcome.{Outcome}
use Rattle.acpitool_program.proofs.visit.visit_bytes.Goals as goal

pub returns-in_ok-visit_content-in-Ok-clause-any : goal.returns-in_ok-visit_content-in-Ok-clause-any
returns-in_ok-visit_content-in-Ok-clause-any g c =
    as_these (file_bytes c.args.name.now c.in-Ok.bytes.items)
    (rw c.deref.ensures.value at c.in_ok-visit_content-in-Ok.ensures)

pub returns-in_ok-tell_unread-in-Err-clause-unread : goal.returns-in_ok-tell_unread-in-Err-clause-unread
returns-in_ok-tell_unread-in-Err-clause-unread g c =
    let line = c.in_ok-tell_unread-in-Err.ensures.line in
    if_err c.args.read (one_unread _ _ _ _ _ _ line.0 _ line.1 c.in_ok-tell_unread-in-Err.ensures.is)

pub returns-in_ok-tell_unread-in-Err-clause-any : goal.returns-in_ok-tell_unread-in-Err-clause-any
returns-in_ok-tell_unread-in-Err-clause-any g c =
    let line = c.in_ok-tell_unread-in-Err.ensures.line in
    as_these (λ (outcomes : List Outcome). λ are. inr are) (one_unread _ _ _ _ _ _ line.0 _ line.1 c.in_ok-tell_unread-in-Err.ensures.is)
