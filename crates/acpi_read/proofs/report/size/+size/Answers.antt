use Rattle.std.proofs.Common.{rules, arith, ap}
use Rattle.acpi_term.proofs.Depths.{first_shallow, others_shallow, element_shallow}
use Rattle.acpi_term.specs.Tree.{count, depth}
use Rattle.acpi_term.specs.View.{view}
use Rattle.acpi_read.proofs.Sizes.{sized_over}
use Rattle.acpi_read.proofs.report.size.+size.Goals as goal

pub add_all-add_one-requires : goal.add_all-add_one-requires
add_all-add_one-requires t c =
    let shallow = element_shallow c.args.terms.now c.loop-term.term-index c.term-item.result c.loop-term-test.true c.term-item.is in
    (omega (arith, shallow, c.decreases), tt)

pub add_one-add_any-requires : goal.add_one-add_any-requires
add_one-add_any-requires t c =
    let shallow = first_shallow c.parts_of-parts.result.first.now c.parts_of-parts.result.others.now in
    (omega (arith, shallow, ap depth c.parts_of-parts.ensures.children, c.decreases), tt)

pub add_one-add_any-requires-2 : goal.add_one-add_any-requires-2
add_one-add_any-requires-2 t c =
    let shallow = others_shallow c.parts_of-parts.result.first.now c.parts_of-parts.result.others.now in
    (omega (arith, shallow, ap depth c.parts_of-parts.ensures.children, c.decreases), tt)

pub add_one-returns : goal.add_one-returns
add_one-returns t c =
    let n = count (view c.args.term.now).2 in
    sized_over c.args.term.now _ _ _ _ c.parts_of-parts.ensures _ _ _ _ _ _ c.in_ok-push.ensures.items c.in_ok-first.ensures c.in_ok-others.ensures _ _ _ _ _ (search rules) (c.own_size.ensures n) c.sum.ensures c.sum-content.ensures (c.with_frame.ensures n)
