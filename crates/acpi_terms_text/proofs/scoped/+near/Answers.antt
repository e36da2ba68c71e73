use Rattle.std.proofs.Common.{map}
use Rattle.acpi_terms_text.specs.Objects.{callee_by}
use Rattle.acpi_terms_text.proofs.Scopes.{near_added}
use Rattle.acpi_terms_text.proofs.scoped.+near.Goals as goal

pub returns-in_ok-add_near : goal.returns-in_ok-add_near
returns-in_ok-add_near t c =
    near_added (map callee_by c.args.objects.now) c.args.levels c.args.scope.now c.parent.result.now _ _ _ c.if-levels-gt0.true c.parent.ensures c.in_ok-add_made_in.ensures c.in_ok-add_near.ensures
