use Rattle.std.proofs.Common.{◌≡◌, List, refl, rules, arith, ap}
use Rattle.acpi_term.proofs.Depths.{first_shallow, others_shallow, element_shallow}
use Rattle.acpi_term.specs.declared.term.Term.{Term}
use Rattle.acpi_term.specs.Tree.{depth}
use Rattle.acpi_term.specs.View.{views, head_of}
use Rattle.acpi_terms_text.specs.Objects.{inside, own_aliases, aliases}
use Rattle.acpi_terms_text.proofs.Runs.{runs_start, runs_on, runs_done}
use Rattle.acpi_terms_text.proofs.Walks.{made_step, made_over}
use Rattle.acpi_terms_text.proofs.alias.+aliases.Goals as goal

pub push_terms-loop-term-init : goal.push_terms-loop-term-init
push_terms-loop-term-init t c = runs_start _ _ _

pub push_terms-push_term-requires : goal.push_terms-push_term-requires
push_terms-push_term-requires t c =
    let shallow = element_shallow c.args.terms.now c.loop-term.term-index c.term-item.result c.loop-term-test.true c.term-item.is in
    (omega (arith, shallow, c.decreases), search rules)

pub push_terms-loop-term-preserved : goal.push_terms-loop-term-preserved
push_terms-loop-term-preserved t c =
    runs_on (λ (terms : List Term). aliases c.args.scope.now (views terms)) _ _ _ _ c.loop-term.invariant c.term-item.result _ _ c.loop-term-test.true c.term-item.is (made_step own_aliases c.args.scope.now c.term-item.result _) c.in_ok-push_term.ensures

pub push_terms-returns : goal.push_terms-returns
push_terms-returns t c = runs_done (λ (terms : List Term). aliases c.args.scope.now (views terms)) _ _ _ _ c.loop-term.invariant refl c.loop-term-test.false

pub push_term-push_terms-requires : goal.push_term-push_terms-requires
push_term-push_terms-requires t c =
    let p = c.parts_of-parts.result in
    let shallow = first_shallow p.first.now p.others.now in
    (omega (arith, shallow, ap depth c.parts_of-parts.ensures.children, c.decreases), search rules)

pub push_term-push_terms-requires-2 : goal.push_term-push_terms-requires-2
push_term-push_terms-requires-2 t c =
    let p = c.parts_of-parts.result in
    let shallow = others_shallow p.first.now p.others.now in
    (omega (arith, shallow, ap depth c.parts_of-parts.ensures.children, c.decreases), search rules)

pub push_term-returns : goal.push_term-returns
push_term-returns t c =
    let p = c.parts_of-parts.result in
    let into : c.inner_scope-inner.result.now ≡ inside c.args.scope.now (head_of p.kind) = search rules in
    made_over own_aliases c.args.scope.now c.inner_scope-inner.result.now c.args.term.now _ _ p.first.now p.others.now c.parts_of-parts.ensures into _ _ _ _ c.in_ok-push_own.ensures c.in_ok-push_terms.ensures c.in_ok-push_terms-2.ensures
