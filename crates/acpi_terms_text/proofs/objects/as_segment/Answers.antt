use Rattle.std.proofs.Common.{sym, ◌∙◌}
use Rattle.acpi_terms_text.proofs.Segments.{is_name}
use Rattle.acpi_terms_text.proofs.objects.as_segment.Goals as goal

pub name_of-requires : goal.name_of-requires
name_of-requires c = is_name c.args.bytes.now c.in-len4.len_at_least c.in-len4.len_below (sym c.is_segment.ensures ∙ c.if-is_segment.true)
