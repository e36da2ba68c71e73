use Rattle.std.proofs.Common.{List, inl, inr}
use Rattle.acpitool_program.proofs.Outcomes.{as_these}
use Rattle.acpitool_program.specs.Outcome.{Outcome}
use Rattle.acpitool_program.proofs.visit.visit_word.Goals as goal

pub returns-in-Some : goal.returns-in-Some
returns-in-Some g c =
    let image = c.in-Some.image in
    as_these (λ (outcomes : List Outcome). λ are. inr (inr (image.file.now, image.base, c.in-Some.ensures, are)))
    c.in_ok-visit_placed.ensures

pub returns : goal.returns
returns g c = as_these (λ (outcomes : List Outcome). λ are. inl are) c.in_ok-visit_bytes.ensures.any
