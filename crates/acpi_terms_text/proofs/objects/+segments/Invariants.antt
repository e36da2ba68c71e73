use Rattle.std.proofs.Common.{◌≡◌, ◌+◌, ◌*◌, [], drop, unwrap_or}
use Rattle.acpi_term.specs.Arity.{with_all}
use Rattle.acpi_term.specs.Tree.{depth}
use Rattle.acpi_term.specs.View.{view, views, single}
use Rattle.acpi_terms_text.specs.Objects.{segments_in}
use Rattle.acpi_terms_text.proofs.objects.+segments.Given as goal

abbrev pub decreases-add_segments : goal.decreases-add_segments
decreases-add_segments l = 3 * depth (views l.terms.now) + 2

abbrev pub decreases-add_segments_of : goal.decreases-add_segments_of
decreases-add_segments_of l = 3 * depth (single (view l.term.now)) + 1

abbrev pub decreases-add_segments_in : goal.decreases-add_segments_in
decreases-add_segments_in l = 3 * depth (single (view l.term.now))

abbrev pub invariant-add_segments-loop-term : goal.invariant-add_segments-loop-term
invariant-add_segments-loop-term l =
    with_all (unwrap_or l.all []) (segments_in (views (drop l.term-index l.terms)))
    ≡ with_all (unwrap_or l.initial.all []) (segments_in (views l.terms))
