use Rattle.std.proofs.Common.{sym, ◌∙◌, rules}
use Rattle.acpi_asl.proofs.Absents.{finds_here, finds_outward, finds_last}
use Rattle.acpi_asl.proofs.absent.finds.Goals as goal

pub scopes-preserved : goal.scopes-preserved
scopes-preserved c =
    finds_outward c.args.known.now c.args.segment.now c.scopes.around.now _ _ c.scopes-test.true c.parent-around.ensures (sym c.has.ensures ∙ c.if-has.false) c.scopes.invariant

pub returns-then-has : goal.returns-then-has
returns-then-has c =
    finds_here c.args.known.now c.args.segment.now c.scopes.around.now _ (sym c.has.ensures ∙ c.if-has.true) c.scopes.invariant

pub returns : goal.returns
returns c =
    finds_last c.args.known.now c.args.segment.now c.scopes.around.now _ _ (search rules) c.has-2.ensures c.scopes.invariant
