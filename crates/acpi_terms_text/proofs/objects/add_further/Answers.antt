use Rattle.std.proofs.Common.{List, map, refl}
use Rattle.acpi_terms_text.specs.declared.objects.Object.{Object}
use Rattle.acpi_terms_text.specs.Objects.{callee_by, segments}
use Rattle.acpi_terms_text.proofs.Walks.{counts_on}
use Rattle.acpi_terms_text.proofs.objects.add_further.Goals as goal

pub objects-preserved : goal.objects-preserved
objects-preserved c =
    counts_on (λ (objects : List Object). segments (map callee_by objects)) _ _ _ _ _ _ _ c.objects-test.true c.object-item.is refl c.in_ok-add_segment.ensures c.objects.invariant
