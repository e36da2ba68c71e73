use Rattle.acpitool_program.proofs.Loadings.{first_missing, second_missing, third_last}
use Rattle.acpitool_program.proofs.loading.make_folders.Goals as goal

pub returns-then-first-ne0 : goal.returns-then-first-ne0
returns-then-first-ne0 g c = first_missing c.args.to.now _ _ c.in_ok-first.first c.in_ok-first.ensures c.if-first-ne0.true

pub returns-then-second-ne0 : goal.returns-then-second-ne0
returns-then-second-ne0 g c =
    second_missing c.args.to.now _ _ _ c.in_ok-first.first c.in_ok-second.second c.in_ok-first.ensures c.if-first-ne0.false
    c.in_ok-second.ensures c.if-second-ne0.true

pub returns : goal.returns
returns g c =
    third_last c.args.to.now _ _ _ _ c.in_ok-first.first c.in_ok-second.second c.in_ok-third.third c.in_ok-first.ensures c.if-first-ne0.false
    c.in_ok-second.ensures c.if-second-ne0.false c.in_ok-third.ensures
