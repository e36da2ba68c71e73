use Rattle.std.proofs.Common.{◌∙◌, sym, inl, inr, arith}
use Rattle.std.proofs.lemmas.List.{take_rest}
use Rattle.acpitool_program.proofs.Archives.{name_here}
use Rattle.acpitool_program.proofs.archiving.name_of.Goals as goal
use Rattle.acpitool_program.proofs.archiving.name_of.Goals.{then-steps-test+else-path-start-ne47, else-steps-test}

pub returns : goal.returns
returns c =
    let path = c.args.path.now in
    let start = c.steps.start in
    elim c.steps-test.branch [
      | then-steps-test+else-path-start-ne47 w ↦
          take_rest path start ∙ sym (name_here path start c.steps.invariant.within c.steps.invariant.none (inr w.if-path-start-ne47.false))
      | else-steps-test w ↦
          take_rest path start ∙ sym (name_here path start c.steps.invariant.within c.steps.invariant.none (inl (omega (arith, w.steps-test.false))))
    ]
