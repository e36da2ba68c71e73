use Rattle.std.proofs.Common.{sym, ◌∙◌}
use Rattle.acpi_terms_text.proofs.Segments.{begins_with, too_few}
use Rattle.acpi_terms_text.proofs.objects.has_segment.Goals as goal

pub returns-then-is_four : goal.returns-then-is_four
returns-then-is_four c =
    sym (begins_with c.fours.rest.now c.args.segment.now c.in-len4-up.len_at_least (sym c.is_four.ensures ∙ c.if-is_four.true)) ∙ c.fours.invariant

pub returns : goal.returns
returns c = sym (too_few c.fours.rest.now c.args.segment.now c.in_default.len_below) ∙ c.fours.invariant
