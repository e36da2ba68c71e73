use Rattle.std.proofs.Common.{arith, ap}
use Rattle.acpi_term.specs.Tree.{depth}
use Rattle.acpi_term.proofs.Depths.{first_shallow, others_shallow, element_shallow}
use Rattle.test_rewrite.proofs.calls.+calls.Goals as goal

pub add_all-add-requires : goal.add_all-add-requires
add_all-add-requires t c =
    let shallow = element_shallow c.args.terms.now c.loop-term.term-index c.term-item.result c.loop-term-test.true c.term-item.is in
    (omega (arith, shallow, c.decreases), tt)

pub add-add_all-requires-then-is_some : goal.add-add_all-requires-then-is_some
add-add_all-requires-then-is_some t c =
    let shallow = others_shallow c.parts_of-parts.result.first.now c.parts_of-parts.result.others.now in
    (omega (arith, shallow, ap depth c.parts_of-parts.ensures.children, c.decreases), tt)

pub add-add_all-requires : goal.add-add_all-requires
add-add_all-requires t c =
    let shallow = first_shallow c.parts_of-parts.result.first.now c.parts_of-parts.result.others.now in
    (omega (arith, shallow, ap depth c.parts_of-parts.ensures.children, c.decreases), tt)

pub add-add_all-requires-then-begun : goal.add-add_all-requires-then-begun
add-add_all-requires-then-begun t c =
    let shallow = first_shallow c.parts_of-parts.result.first.now c.parts_of-parts.result.others.now in
    (omega (arith, shallow, ap depth c.parts_of-parts.ensures.children, c.decreases), tt)

pub add-add_all-requires-then-begun-2 : goal.add-add_all-requires-then-begun-2
add-add_all-requires-then-begun-2 t c =
    let shallow = others_shallow c.parts_of-parts.result.first.now c.parts_of-parts.result.others.now in
    (omega (arith, shallow, ap depth c.parts_of-parts.ensures.children, c.decreases), tt)
