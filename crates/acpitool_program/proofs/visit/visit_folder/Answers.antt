use Rattle.std.proofs.Common.{List, inl, inr}
use Rattle.acpitool_program.proofs.Outcomes.{as_these, one_unread}
use Rattle.acpitool_program.specs.Outcome.{Outcome}
use Rattle.acpitool_program.proofs.visit.visit_folder.Goals as goal

pub returns-in_ok-visit_files-in-Ok : goal.returns-in_ok-visit_files-in-Ok
returns-in_ok-visit_files-in-Ok g c =
    as_these (λ (outcomes : List Outcome). λ are. inl (_, are)) c.in_ok-visit_files-in-Ok.ensures

pub returns-in_ok-tell_unread-in-Err : goal.returns-in_ok-tell_unread-in-Err
returns-in_ok-tell_unread-in-Err g c =
    let line = c.in_ok-tell_unread-in-Err.ensures.line in
    as_these (λ (outcomes : List Outcome). λ are. inr are) (one_unread _ _ _ _ _ _ line.0 _ line.1 c.in_ok-tell_unread-in-Err.ensures.is)
