use Rattle.std.proofs.Common.{rules, arith, ap}
use Rattle.acpi_term.proofs.Depths.{first_shallow, others_shallow, element_shallow}
use Rattle.acpi_term.specs.Tree.{depth}
use Rattle.acpi_asl.proofs.Namespaces.{lines_are_text, text_on, text_done, around_written}
use Rattle.acpi_asl.proofs.namespace.+names.Goals as goal

pub push_names-push_term-requires : goal.push_names-push_term-requires
push_names-push_term-requires t c =
    let shallow = element_shallow c.args.terms.now c.terms.term-index c.term-item.result c.terms-test.true c.term-item.is in
    (omega (arith, shallow, c.decreases), tt)

pub push_names-terms-preserved : goal.push_names-terms-preserved
push_names-terms-preserved t c =
    text_on _ _ _ lines_are_text _ _ _ c.term-item.result _ _ _ c.terms.invariant c.terms-test.true c.term-item.is c.in_ok-push_term.ensures

pub push_names-returns : goal.push_names-returns
push_names-returns t c = text_done _ _ _ lines_are_text _ _ _ _ _ c.terms.invariant c.terms-test.false

pub push_term-push_names-requires : goal.push_term-push_names-requires
push_term-push_names-requires t c =
    let p = c.parts_of-parts.result in
    let shallow = first_shallow p.first.now p.others.now in
    (omega (arith, shallow, ap depth c.parts_of-parts.ensures.children, c.decreases), tt)

pub push_term-push_names-requires-2 : goal.push_term-push_names-requires-2
push_term-push_names-requires-2 t c =
    let p = c.parts_of-parts.result in
    let shallow = others_shallow p.first.now p.others.now in
    (omega (arith, shallow, ap depth c.parts_of-parts.ensures.children, c.decreases), tt)

pub push_term-returns : goal.push_term-returns
push_term-returns t c =
    let p = c.parts_of-parts.result in
    around_written _ _ _ lines_are_text c.args.depth c.args.term.now _ _ p.first.now p.others.now c.parts_of-parts.ensures _ c.has_inside.ensures _ c.in_ok-inner.ensures _ _ _ _
    (search rules) c.in_ok-push_lines.ensures c.in_ok-push_names.ensures c.in_ok-push_names-2.ensures
