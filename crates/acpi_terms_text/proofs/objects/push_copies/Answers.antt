use Rattle.std.proofs.Common.{List, [], ◌∷◌, map, refl}
use Rattle.acpi_terms_text.specs.declared.objects.Object.{Object}
use Rattle.acpi_terms_text.specs.Objects.{callee_by, all_kept}
use Rattle.acpi_terms_text.proofs.Segments.{kept_both}
use Rattle.acpi_terms_text.proofs.Runs.{runs_start, runs_on, runs_done}
use Rattle.acpi_terms_text.proofs.objects.push_copies.Goals as goal

pub copies-init : goal.copies-init
copies-init c = runs_start _ _ _

pub copies-preserved : goal.copies-preserved
copies-preserved c = runs_on (λ (objects : List Object). all_kept c.args.kept (map callee_by objects)) _ _ _ _ c.copies.invariant c.object-item.result _ _ c.copies-test.true c.object-item.is (kept_both c.args.kept (callee_by c.object-item.result ∷ []) _) c.in_ok-push_copy.ensures

pub returns : goal.returns
returns c = runs_done (λ (objects : List Object). all_kept c.args.kept (map callee_by objects)) _ _ _ _ c.copies.invariant refl c.copies-test.false
