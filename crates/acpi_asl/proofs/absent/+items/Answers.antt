use Rattle.std.proofs.Common.{◌≡◌, ◌+◌, ◌∙◌, ◌++◌, drop, refl, rules, arith, sym, ap}
use Rattle.acpi_term.proofs.Depths.{first_shallow, others_shallow, element_shallow}
use Rattle.acpi_term.specs.Tree.{depth}
use Rattle.acpi_term.specs.View.{view, views, single, head_of}
use Rattle.acpi_terms_text.specs.Objects.{inside}
use Rattle.acpi_asl.specs.Absent.{items, left_after}
use Rattle.acpi_asl.specs.declared.place.Place.{Place}
use Rattle.acpi_asl.proofs.Absents.{going_start, going_on, going_done, items_split, items_past, places_split, places_past, added_over}
use Rattle.acpi_asl.proofs.absent.+items.Goals as goal

pub push_items-loop-term-init : goal.push_items-loop-term-init
push_items-loop-term-init t c = (going_start _ _ _, refl)

pub push_items-push_items_of-requires : goal.push_items-push_items_of-requires
push_items-push_items_of-requires t c =
    let shallow = element_shallow c.args.terms.now c.loop-term.term-index c.term-item.result c.loop-term-test.true c.term-item.is in
    (omega (arith, shallow, c.decreases), search rules)

pub push_items-loop-term-preserved : goal.push_items-loop-term-preserved
push_items-loop-term-preserved t c =
    let p = c.args.pass in
    let scope = c.args.scope.now in
    let ts = c.args.terms.now in
    let i = c.loop-term.term-index in
    let left = c.loop-term.left in
    let one = items p left scope (single (view c.term-item.result)) in
    let rest = ap (λ (at : Place). one ++ items p at scope (views (drop (i + 1) ts))) (sym c.next-left.ensures) in
    let split = items_split p left scope ts i c.term-item.result c.loop-term-test.true c.term-item.is ∙ rest in
    let places = ap (λ (at : Place). left_after at (views (drop (i + 1) ts))) c.next-left.ensures
    ∙ sym (places_split left ts i c.term-item.result c.loop-term-test.true c.term-item.is) ∙ c.loop-term.invariant.1
    in
    (going_on _ _ _ _ _ _ c.loop-term.invariant.0 one _ _ _ split c.in_ok-push_items_of.ensures, places)

pub push_items-returns : goal.push_items-returns
push_items-returns t c =
    let ts = c.args.terms.now in
    let i = c.loop-term.term-index in
    let left = c.loop-term.left in
    let past = items_past c.args.pass left c.args.scope.now ts i c.loop-term-test.false in
    record {
      added = going_done _ _ _ _ _ _ c.loop-term.invariant.0 past;
      place = sym (places_past left ts i c.loop-term-test.false) ∙ c.loop-term.invariant.1;
    }

pub push_items_of-push_items-requires : goal.push_items_of-push_items-requires
push_items_of-push_items-requires t c =
    let p = c.parts_of-parts.result in
    let shallow = first_shallow p.first.now p.others.now in
    (omega (arith, shallow, ap depth c.parts_of-parts.ensures.children, c.decreases), search rules)

pub push_items_of-push_items-requires-2 : goal.push_items_of-push_items-requires-2
push_items_of-push_items-requires-2 t c =
    let p = c.parts_of-parts.result in
    let shallow = others_shallow p.first.now p.others.now in
    (omega (arith, shallow, ap depth c.parts_of-parts.ensures.children, c.decreases), search rules)

pub push_items_of-returns : goal.push_items_of-returns
push_items_of-returns t c =
    let p = c.parts_of-parts.result in
    let scope = c.args.scope.now in
    let into : c.inner_scope-inner.result.now ≡ inside scope (head_of p.kind) = search rules in
    added_over c.args.pass c.args.place c.place_of-first.result c.in_ok-left.left scope c.inner_scope-inner.result.now c.args.term.now _ _ p.first.now p.others.now c.parts_of-parts.ensures into _ (search rules) c.place_of-first.ensures c.in_ok-left.ensures.place _ _ _ _ _ _ _ _ c.in_ok-push_own_items.ensures c.in_ok-left.ensures.added c.in_ok-push_items.ensures.added
