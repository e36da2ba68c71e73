use Rattle.std.proofs.Common.{rules, arith, ap, refl}
use Rattle.acpi_term.specs.Tree.{depth}
use Rattle.acpi_base.proofs.Objects.{at_exit}
use Rattle.acpi_term.proofs.Depths.{first_shallow, others_shallow, element_shallow}
use Rattle.acpi_term.proofs.Spells.{terms_start, terms_go_on, terms_stop, terms_done, laid_on, unlaid_on, first_stop, others_stop}
use Rattle.acpi_term.proofs.spell.+spell.Goals as goal

pub spell_all-loop-term-init : goal.spell_all-loop-term-init
spell_all-loop-term-init t c = terms_start _ _

pub spell_all-spell_term-requires : goal.spell_all-spell_term-requires
spell_all-spell_term-requires t c =
    let shallow = element_shallow c.args.terms.now c.loop-term.term-index c.term-item.result c.loop-term-test.true c.term-item.is in
    (omega (arith, shallow, c.decreases), tt)

pub spell_all-loop-term-preserved : goal.spell_all-loop-term-preserved
spell_all-loop-term-preserved t c =
    terms_go_on c.args.terms.now c.loop-term.term-index _ _ c.loop-term.invariant _ _ c.loop-term-test.true (search rules) c.in_ok-spell_term.ensures.ok

pub spell_all-returns-in_err-spell_term-clause-err : goal.spell_all-returns-in_err-spell_term-clause-err
spell_all-returns-in_err-spell_term-clause-err t c =
    at_exit _ _ _ c.from_residual.ensures.1 (terms_stop c.args.terms.now c.loop-term.term-index _ _ c.loop-term.invariant _ _ c.in_err-spell_term.ensures.err c.loop-term-test.true (search rules))

pub spell_all-returns : goal.spell_all-returns
spell_all-returns t c = record { ok = terms_done c.args.terms.now c.loop-term.term-index _ _ c.loop-term.invariant c.loop-term-test.false; err = tt }

pub spell_term-spell_all-requires : goal.spell_term-spell_all-requires
spell_term-spell_all-requires t c =
    let shallow = first_shallow c.parts_of-parts.result.first.now c.parts_of-parts.result.others.now in
    (omega (arith, shallow, ap depth c.parts_of-parts.ensures.children, c.decreases), tt)

pub spell_term-spell_all-requires-2 : goal.spell_term-spell_all-requires-2
spell_term-spell_all-requires-2 t c =
    let shallow = others_shallow c.parts_of-parts.result.first.now c.parts_of-parts.result.others.now in
    (omega (arith, shallow, ap depth c.parts_of-parts.ensures.children, c.decreases), tt)

pub spell_term-returns-in_err-spell_all-clause-err : goal.spell_term-returns-in_err-spell_all-clause-err
spell_term-returns-in_err-spell_all-clause-err t c =
    at_exit _ _ _ c.from_residual.ensures.1 (first_stop _ _ _ _ _ c.parts_of-parts.ensures _ c.in_err-spell_all.ensures.err)

pub spell_term-returns-in_err-spell_all-2-clause-err : goal.spell_term-returns-in_err-spell_all-2-clause-err
spell_term-returns-in_err-spell_all-2-clause-err t c =
    at_exit _ _ _ c.from_residual-in_err-spell_all-2.ensures.1 (others_stop _ _ _ _ _ c.parts_of-parts.ensures _ c.in_err-spell_all-2.ensures.err)

pub spell_term-returns-in_err-own-clause-err : goal.spell_term-returns-in_err-own-clause-err
spell_term-returns-in_err-own-clause-err t c =
    at_exit _ _ _ c.from_residual-in_err-own.ensures.1 (unlaid_on _ _ _ _ _ c.parts_of-parts.ensures _ _ _ _ refl (search rules) c.in_ok-spell_all-2.ensures.ok
    (rw c.deref.ensures.value at c.in_err-own.ensures.err))

pub spell_term-returns-clause-ok : goal.spell_term-returns-clause-ok
spell_term-returns-clause-ok t c =
    laid_on _ _ _ _ _ c.parts_of-parts.ensures _ _ _ _ _ _ refl (search rules) c.in_ok-spell_all-2.ensures.ok
    (rw c.deref-2.ensures.value (rw c.deref.ensures.value at c.in_ok-own.ensures.ok)) c.in_ok-extend_from_slice.ensures.items
