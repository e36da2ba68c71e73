use Rattle.std.proofs.Common.{rules, arith, ap, ◌∙◌}
use Rattle.acpi_term.proofs.Depths.{first_shallow, others_shallow, element_shallow}
use Rattle.acpi_term.specs.Tree.{depth}
use Rattle.acpi_asl.specs.Place.{next}
use Rattle.acpi_asl.proofs.Walks.{going_start, going_on, going_done, one_written, whole_written}
use Rattle.acpi_asl.proofs.asl.+asl.Goals as goal

pub push_terms-loop-term-init : goal.push_terms-loop-term-init
push_terms-loop-term-init t c = going_start _ _ _ _

pub push_terms-push_term-requires : goal.push_terms-push_term-requires
push_terms-push_term-requires t c =
    let shallow = element_shallow c.args.terms.now c.loop-term.term-index c.term-item.result c.loop-term-test.true c.term-item.is in
    (omega (arith, shallow, c.decreases), tt)

pub push_terms-loop-term-preserved : goal.push_terms-loop-term-preserved
push_terms-loop-term-preserved t c =
    let next_is = c.next-left.ensures ∙ ap (next c.loop-term.left) c.is_block.ensures in
    going_on _ _ _ _ _ _ _ c.loop-term.invariant c.term-item.result c.loop-term-test.true c.term-item.is _ c.in_ok-push_term.ensures _ next_is

pub push_terms-returns : goal.push_terms-returns
push_terms-returns t c = going_done _ _ _ _ _ _ _ c.loop-term.invariant c.loop-term-test.false

pub push_term-push_whole-requires : goal.push_term-push_whole-requires
push_term-push_whole-requires t c =
    let shallow = ap depth c.parts_of-parts.ensures.children in
    (omega (arith, shallow, c.decreases), tt)

pub push_term-returns : goal.push_term-returns
push_term-returns t c =
    let p = c.parts_of-parts.result in
    one_written c.args.place c.args.depth c.args.term.now _ _ p.first.now p.others.now c.parts_of-parts.ensures _ _ c.is_left_out-left_out.ensures c.in_ok-inner.ensures _ _ _ _ _ _ c.in_ok-push_before.ensures c.in_ok-push_note.ensures c.in_ok-push_block_note.ensures c.in_ok-push_whole.ensures c.in_ok-push_after.ensures

pub push_whole-push_any-requires : goal.push_whole-push_any-requires
push_whole-push_any-requires t c =
    let p = c.args.parts in
    let shallow = first_shallow p.first.now p.others.now in
    (omega (arith, shallow, c.decreases), tt)

pub push_whole-push_any-requires-2 : goal.push_whole-push_any-requires-2
push_whole-push_any-requires-2 t c =
    let p = c.args.parts in
    let shallow = others_shallow p.first.now p.others.now in
    (omega (arith, shallow, c.decreases), tt)

pub push_whole-returns : goal.push_whole-returns
push_whole-returns t c =
    let p = c.args.parts in
    whole_written c.args.place _ _ p.first.now p.others.now _ c.is_special.ensures _ _ _ _ _ _ (search rules) c.is_statement.ensures (search rules) c.place_in-inside.ensures _ _ _ _ _ c.in_ok-push_opening.ensures c.in_ok-left.ensures c.in_ok-push_any.ensures c.in_ok-push_end.ensures
