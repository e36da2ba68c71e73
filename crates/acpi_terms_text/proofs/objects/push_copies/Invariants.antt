use Rattle.std.proofs.Common.{List, map}
use Rattle.acpi_terms_text.specs.declared.objects.Object.{Object}
use Rattle.acpi_terms_text.specs.Objects.{callee_by, all_kept}
use Rattle.acpi_terms_text.proofs.Runs.{Runs}
use Rattle.acpi_terms_text.proofs.objects.push_copies.Given as goal

abbrev pub invariant-copies : goal.invariant-copies
invariant-copies l = Runs (λ (objects : List Object). all_kept l.kept (map callee_by objects)) l.objects l.object-index (map callee_by l.initial.all.items) (map callee_by l.all.items)
