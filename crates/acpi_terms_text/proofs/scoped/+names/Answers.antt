use Rattle.std.proofs.Common.{map}
use Rattle.acpi_term.specs.View.{views}
use Rattle.acpi_terms_text.specs.Objects.{callee_by}
use Rattle.acpi_terms_text.proofs.Scopes.{named_first, named_after}
use Rattle.acpi_terms_text.proofs.scoped.+names.Goals as goal

pub returns-then-names_in : goal.returns-then-names_in
returns-then-names_in t c =
    named_first (map callee_by c.args.objects.now) (views c.args.body.now) c.args.levels c.args.scope.now _ c.names_in.ensures c.if-names_in.true

pub returns-then-levels-gt0 : goal.returns-then-levels-gt0
returns-then-levels-gt0 t c =
    named_after (map callee_by c.args.objects.now) (views c.args.body.now) c.args.levels c.args.scope.now c.parent.result.now _ _ c.if-levels-gt0.true c.parent.ensures c.names_in.ensures c.if-names_in.false c.names_near.ensures
