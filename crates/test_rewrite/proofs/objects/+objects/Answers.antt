use Rattle.std.proofs.Common.{arith, ap}
use Rattle.acpi_term.specs.Tree.{depth}
use Rattle.acpi_term.proofs.Depths.{first_shallow, others_shallow, element_shallow}
use Rattle.test_rewrite.proofs.objects.+objects.Goals as goal

pub push_objects-object_of-requires : goal.push_objects-object_of-requires
push_objects-object_of-requires t c =
    let shallow = element_shallow c.args.terms.now c.loop-term.term-index c.term-item.result c.loop-term-test.true c.term-item.is in
    (omega (arith, shallow, c.decreases), tt)

pub object_of-push_objects-requires : goal.object_of-push_objects-requires
object_of-push_objects-requires t c =
    let shallow = first_shallow c.parts_of-parts.result.first.now c.parts_of-parts.result.others.now in
    (omega (arith, shallow, ap depth c.parts_of-parts.ensures.children, c.decreases), tt)

pub object_of-push_objects-requires-2 : goal.object_of-push_objects-requires-2
object_of-push_objects-requires-2 t c =
    let shallow = others_shallow c.parts_of-parts.result.first.now c.parts_of-parts.result.others.now in
    (omega (arith, shallow, ap depth c.parts_of-parts.ensures.children, c.decreases), tt)
