use Rattle.std.proofs.Common.{rules, ◌≡◌, ℕ, ◌==◌, List, sym, subst}
use Rattle.std.specs.List.{after_first}
use Rattle.acpitool_program.specs.Command.{IsAddress}
use Rattle.acpitool_program.proofs.placed.image_of.Goals as goal

pub returns-in-None : goal.returns-in-None
returns-in-None c = λ file base is.
    let same : c.in-Some.base.now ≡ after_first (λ b. b == 64) c.args.word.now = search rules in
    let P : List ℕ → Type 0 = λ word. IsAddress word base in
    c.in-None.ensures base (subst P (sym same) is.address)
