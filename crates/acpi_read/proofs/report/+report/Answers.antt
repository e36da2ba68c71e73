use Rattle.std.proofs.Common.{rules, arith, ap, []}
use Rattle.acpi_term.proofs.Depths.{first_shallow, others_shallow, element_shallow}
use Rattle.acpi_term.specs.Tree.{depth}
use Rattle.acpi_term.specs.View.{view}
use Rattle.acpi_read.proofs.Lines.{going_start, going_has, going_on, going_done, has_first, has_others, own_size_is, told_all}
use Rattle.acpi_read.proofs.report.+report.Goals as goal

pub push_terms-loop-term-init : goal.push_terms-loop-term-init
push_terms-loop-term-init t c = going_start _ _ _ _ c.requires

pub push_terms-push_term-requires : goal.push_terms-push_term-requires
push_terms-push_term-requires t c =
    let shallow = element_shallow c.args.terms.now c.loop-term.term-index c.term-item.result c.loop-term-test.true c.term-item.is in
    (omega (arith, shallow, c.decreases), going_has _ _ _ _ _ _ _ c.loop-term.invariant c.term-item.result c.loop-term-test.true c.term-item.is)

pub push_terms-loop-term-preserved : goal.push_terms-loop-term-preserved
push_terms-loop-term-preserved t c =
    going_on _ _ _ _ _ _ _ c.loop-term.invariant c.term-item.result c.loop-term-test.true c.term-item.is _ _ c.in_ok-left.ensures

pub push_terms-returns : goal.push_terms-returns
push_terms-returns t c = going_done _ _ _ _ _ _ _ c.loop-term.invariant c.loop-term-test.false

pub push_term-push_any-requires : goal.push_term-push_any-requires
push_term-push_any-requires t c =
    let p = c.parts_of-parts.result in
    let shallow = first_shallow p.first.now p.others.now in
    (omega (arith, shallow, ap depth c.parts_of-parts.ensures.children, c.decreases), has_first c.args.term.now _ _ p.first.now p.others.now c.parts_of-parts.ensures c.args.sizes.now c.requires)

pub push_term-push_any-requires-2 : goal.push_term-push_any-requires-2
push_term-push_any-requires-2 t c =
    let p = c.parts_of-parts.result in
    let shallow = others_shallow p.first.now p.others.now in
    (omega (arith, shallow, ap depth c.parts_of-parts.ensures.children, c.decreases), has_others c.args.term.now _ _ p.first.now p.others.now c.parts_of-parts.ensures c.args.sizes.now c.requires c.args.depth _ [] [] _ _ [] c.in_ok-left.left.now (search rules) c.in_ok-left.ensures)

pub push_term-returns : goal.push_term-returns
push_term-returns t c =
    let p = c.parts_of-parts.result in
    let chosen = c.shown_width-shown.ensures (view c.args.term.now).2 (own_size_is c.args.term.now _ _ p.first.now p.others.now c.parts_of-parts.ensures c.args.sizes.now c.requires) in
    told_all c.args.term.now _ _ p.first.now p.others.now c.parts_of-parts.ensures c.args.sizes.now c.requires c.args.depth _ _ _ _ _ _ c.in_ok-left.left.now (search rules) c.in_ok-left.ensures _ _ (search rules) chosen c.in_ok-push_line.ensures c.in_ok-push_own.ensures (λ left. left.now) c.push_any-2.result c.push_any-2.ensures
