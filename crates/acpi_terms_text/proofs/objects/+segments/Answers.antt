use Rattle.std.proofs.Common.{List, arith, rules, ap}
use Rattle.acpi_term.proofs.Depths.{first_shallow, others_shallow, element_shallow}
use Rattle.acpi_term.specs.declared.term.Term.{Term}
use Rattle.acpi_term.specs.Tree.{depth}
use Rattle.acpi_term.specs.View.{views}
use Rattle.acpi_terms_text.specs.Objects.{segments_in}
use Rattle.acpi_terms_text.proofs.Segments.{segments_step, segments_over}
use Rattle.acpi_terms_text.proofs.Walks.{counts_on}
use Rattle.acpi_terms_text.proofs.objects.+segments.Goals as goal

pub add_segments-add_segments_of-requires : goal.add_segments-add_segments_of-requires
add_segments-add_segments_of-requires t c =
    let shallow = element_shallow c.args.terms.now c.loop-term.term-index c.term-item.result c.loop-term-test.true c.term-item.is in
    (omega (arith, shallow, c.decreases), search rules)

pub add_segments-loop-term-preserved : goal.add_segments-loop-term-preserved
add_segments-loop-term-preserved t c =
    counts_on (λ (terms : List Term). segments_in (views terms)) _ _ _ _ _ _ _ c.loop-term-test.true c.term-item.is (segments_step c.term-item.result _) c.in_ok-add_segments_of.ensures c.loop-term.invariant

pub add_segments_in-add_segments-requires : goal.add_segments_in-add_segments-requires
add_segments_in-add_segments-requires t c =
    let p = c.parts_of-parts.result in
    let shallow = first_shallow p.first.now p.others.now in
    (omega (arith, shallow, ap depth c.parts_of-parts.ensures.children, c.decreases), search rules)

pub add_segments_in-add_segments-requires-2 : goal.add_segments_in-add_segments-requires-2
add_segments_in-add_segments-requires-2 t c =
    let p = c.parts_of-parts.result in
    let shallow = others_shallow p.first.now p.others.now in
    (omega (arith, shallow, ap depth c.parts_of-parts.ensures.children, c.decreases), search rules)

pub add_segments_in-returns : goal.add_segments_in-returns
add_segments_in-returns t c =
    let p = c.parts_of-parts.result in
    segments_over c.args.term.now _ _ p.first.now p.others.now c.parts_of-parts.ensures _ _ _ _ c.in_ok-add_own_segments.ensures c.in_ok-add_segments.ensures c.in_ok-add_segments-2.ensures
