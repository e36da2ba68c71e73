use Rattle.std.proofs.Common.{◌≡◌, ℕ, ◌<◌, ◌≤◌, List, ◌++◌, length, take, drop, map, rules, arith, subst, sym, ap, ◌∙◌}
use Rattle.std.proofs.Math.Seq.{take-append_seam}
use Rattle.acpi_term.specs.Tree.{depth}
use Rattle.acpi_term.specs.View.{view, views, single}
use Rattle.acpi_term.specs.declared.term.Term.{Term}
use Rattle.acpi_terms_text.specs.Objects.{callee_by}
use Rattle.acpi_terms_text.specs.Scoped.{AreScoped}
use Rattle.acpi_terms_text.proofs.Scopes.{done_on, done_all, done_shallow}
use Rattle.acpi_terms_text.proofs.scoped.+scoped.Goals as goal

pub scoped_terms-scoped_term-requires : goal.scoped_terms-scoped_term-requires
scoped_terms-scoped_term-requires t c =
    let stated = c.args.numbers.now.stated.now in
    let all = map callee_by c.args.numbers.now.objects.now in
    let differing = map callee_by c.args.numbers.now.differing.now in
    let own = c.args.numbers.now.own.now in
    let scope = c.args.scope.now in
    let inside : c.loop-term.term-index < length c.loop-term.term-items = omega (arith, c.loop-term-test.true, c.loop-term.auto.term-items) in
    let old : c.replace-old.result ≡ c.term-item.result = c.replace-old.ensures.value ∙ sym c.term-item.is in
    let shallow = done_shallow stated all differing own scope c.loop-term.term-index c.args.terms.items c.loop-term.term-items c.term-item.result inside c.term-item.is c.loop-term.invariant in
    (omega (arith, shallow, ap (λ (x : Term). depth (single (view x))) old, c.decreases), search rules)

pub scoped_terms-loop-term-preserved : goal.scoped_terms-loop-term-preserved
scoped_terms-loop-term-preserved t c =
    let stated = c.args.numbers.now.stated.now in
    let all = map callee_by c.args.numbers.now.objects.now in
    let differing = map callee_by c.args.numbers.now.differing.now in
    let own = c.args.numbers.now.own.now in
    let scope = c.args.scope.now in
    let inside : c.loop-term.term-index < length c.loop-term.term-items = omega (arith, c.loop-term-test.true, c.loop-term.auto.term-items) in
    let old : c.replace-old.result ≡ c.term-item.result = c.replace-old.ensures.value ∙ sym c.term-item.is in
    let one : AreScoped stated all differing own scope (single (view c.term-item.result)) (single (view c.in_ok-term.field-0)) =
    subst (λ (x : Term). AreScoped stated all differing own scope (single (view x)) (single (view c.in_ok-term.field-0))) old c.in_ok-term.ensures
    in
    done_on stated all differing own scope c.loop-term.term-index c.args.terms.items c.loop-term.term-items c.term-item.result c.in_ok-term.field-0 inside c.term-item.is c.loop-term.invariant one

pub scoped_terms-returns : goal.scoped_terms-returns
scoped_terms-returns t c =
    let stated = c.args.numbers.now.stated.now in
    let all = map callee_by c.args.numbers.now.objects.now in
    let differing = map callee_by c.args.numbers.now.differing.now in
    let own = c.args.numbers.now.own.now in
    let scope = c.args.scope.now in
    let now = c.loop-term.term-items in
    let rest = drop (length now) c.args.terms.items in
    let past : length now ≤ c.loop-term.term-index = omega (arith, c.loop-term.auto.term-items, c.loop-term-test.false) in
    let whole : c.args.terms.len ≡ length now = omega (arith, c.loop-term.auto.term-items, c.deref_mut-term-items.ensures.len) in
    let is : take c.args.terms.len (now ++ rest) ≡ now = ap (λ (n : ℕ). take n (now ++ rest)) whole ∙ take-append_seam now rest in
    subst (λ (l : List Term). AreScoped stated all differing own scope (views c.args.terms.items) (views l)) (sym is) (done_all stated all differing own scope c.loop-term.term-index c.args.terms.items now past c.loop-term.invariant)
