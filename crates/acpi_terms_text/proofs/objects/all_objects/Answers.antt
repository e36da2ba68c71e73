use Rattle.std.proofs.Common.{map, ap, refl}
use Rattle.acpi_term.specs.View.{views}
use Rattle.acpi_terms_text.specs.declared.objects.Kept.TheVariants.{All}
use Rattle.acpi_terms_text.specs.Objects.{callee_by}
use Rattle.acpi_terms_text.proofs.Segments.{callees_kept}
use Rattle.acpi_terms_text.proofs.objects.all_objects.Goals as goal

pub returns : goal.returns
returns c =
    callees_kept All (views c.args.terms.now) (map callee_by c.args.further.now) _ _ _ _ (ap (map callee_by) c.new-all.ensures.items) refl c.in_ok-push_terms.ensures c.in_ok-push_copies.ensures
