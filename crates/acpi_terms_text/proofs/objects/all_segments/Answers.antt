use Rattle.std.proofs.Common.{map}
use Rattle.acpi_term.specs.View.{views}
use Rattle.acpi_terms_text.specs.Objects.{callee_by}
use Rattle.acpi_terms_text.proofs.Segments.{segments_all}
use Rattle.acpi_terms_text.proofs.objects.all_segments.Goals as goal

pub returns : goal.returns
returns c = segments_all (views c.args.terms.now) (map callee_by c.args.further.now) _ _ c.in_ok-add_segments.ensures c.in_ok-add_further.ensures
