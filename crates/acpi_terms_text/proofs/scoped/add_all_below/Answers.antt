use Rattle.std.proofs.Common.{List, map, refl}
use Rattle.acpi_terms_text.specs.declared.objects.Object.{Object}
use Rattle.acpi_terms_text.specs.Objects.{callee_by}
use Rattle.acpi_terms_text.specs.Scoped.{all_below}
use Rattle.acpi_terms_text.proofs.Walks.{counts_on}
use Rattle.acpi_terms_text.proofs.scoped.add_all_below.Goals as goal

pub objects-preserved : goal.objects-preserved
objects-preserved c =
    counts_on (λ (objects : List Object). all_below c.args.up.now c.args.scope.now (map callee_by objects)) _ _ _ _ _ _ _ c.objects-test.true c.object-item.is refl c.in_ok-add_below.ensures c.objects.invariant
