use Rattle.acpi_terms_text.proofs.Walks.{each_added}
use Rattle.acpi_terms_text.proofs.objects.add_from_each.Goals as goal

pub segments-preserved : goal.segments-preserved
segments-preserved c = each_added c.args.args c.segments.rest.now _ _ _ c.in-len4-up.len_at_least c.in_ok-add_name.ensures c.segments.invariant
