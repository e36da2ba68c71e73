use Rattle.std.proofs.Common.{rules, arith, ap}
use Rattle.acpi_term.proofs.Depths.{first_shallow, others_shallow, element_shallow}
use Rattle.acpi_term.specs.Tree.{depth}
use Rattle.acpi_asl.proofs.Namespaces.{objects_are_text, text_on, text_done, around_written}
use Rattle.acpi_asl.proofs.objects.+objects.Goals as goal

pub push_objects-push_term-requires : goal.push_objects-push_term-requires
push_objects-push_term-requires t c =
    let shallow = element_shallow c.args.terms.now c.terms.term-index c.term-item.result c.terms-test.true c.term-item.is in
    (omega (arith, shallow, c.decreases), tt)

pub push_objects-terms-preserved : goal.push_objects-terms-preserved
push_objects-terms-preserved t c =
    text_on _ _ _ objects_are_text _ _ _ c.term-item.result _ _ _ c.terms.invariant c.terms-test.true c.term-item.is c.in_ok-push_term.ensures

pub push_objects-returns : goal.push_objects-returns
push_objects-returns t c = text_done _ _ _ objects_are_text _ _ _ _ _ c.terms.invariant c.terms-test.false

pub push_term-push_objects-requires : goal.push_term-push_objects-requires
push_term-push_objects-requires t c =
    let p = c.parts_of-parts.result in
    let shallow = first_shallow p.first.now p.others.now in
    (omega (arith, shallow, ap depth c.parts_of-parts.ensures.children, c.decreases), tt)

pub push_term-push_objects-requires-2 : goal.push_term-push_objects-requires-2
push_term-push_objects-requires-2 t c =
    let p = c.parts_of-parts.result in
    let shallow = others_shallow p.first.now p.others.now in
    (omega (arith, shallow, ap depth c.parts_of-parts.ensures.children, c.decreases), tt)

pub push_term-returns : goal.push_term-returns
push_term-returns t c =
    let p = c.parts_of-parts.result in
    around_written _ _ _ objects_are_text c.args.scope.now c.args.term.now _ _ p.first.now p.others.now c.parts_of-parts.ensures _ c.has_inside.ensures _ c.in_ok-inner.ensures _ _ _ _
    (search rules) c.in_ok-push_own.ensures
    (rw c.deref.ensures.value at c.in_ok-push_objects.ensures) (rw c.deref-2.ensures.value at c.in_ok-push_objects-2.ensures)
