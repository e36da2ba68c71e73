use Rattle.std.proofs.Common.{◌≡◌, ◌<◌, [], length, arith, rules}
use Rattle.std.proofs.lemmas.List.{nil_from_length}
use Rattle.std.proofs.lemmas.Result.{err_from_is_err_and}
use Rattle.acpi_term.specs.Arity.{grammar_by}
use Rattle.acpi_term.specs.View.{view, views}
use Rattle.acpi_base.proofs.Bytes.{bytes_each}
use Rattle.acpi_read.specs.Cause.{Answers, cause_kind, error_kind}
use Rattle.acpi_read.specs.TermReader.{reads}
use Rattle.acpi_read.specs.TermStart.{seen}
use Rattle.acpi_read.proofs.Closings.{opened_is, unopened, read_shortens, block_is, first_is_missing, first_fails, others_fail, first_is}
use Rattle.acpi_read.proofs.TermLists.{and_one, views_push, several_begin, several_go_on, several_fail, several_miss, several_end, all_begin, all_go_on, all_shrink, all_fail, all_end}
use Rattle.acpi_read.proofs.terms.+read.Goals as goal

pub several-several-init : goal.several-several-init
several-several-init t c = rw c.in_ok-terms.ensures.items (several_begin (reads c.args.reader.now) c.args.mode c.args.count c.args.bytes.now (bytes_each c.args.bytes.now (λ i. omega (arith, c.type_inv.bytes i))))

pub several-returns-in_err-term-clause-gives : goal.several-returns-in_err-term-clause-gives
several-returns-in_err-term-clause-gives t c =
    let p = err_from_is_err_and c.from_residual-in_err-term.result c.from_residual-in_err-term.ensures.1 in
    rw (p.1, p.2) (several_fail (grammar_by c.args.reader.now.language c.args.reader.now.arities.now) c.args.reader.now.depth c.args.mode c.args.count c.several.counter c.args.bytes.now (views c.several.terms.items) c.several.at c.several.rest.now c.several.invariant c.several-test.true (error_kind c.in_err-term.field-0.0) c.in_err-term.ensures.gives)

pub several-several-preserved : goal.several-several-preserved
several-several-preserved t c =
    let x = c.in_ok-term.term in
    let e : views c.push.new.self.items ≡ and_one (views c.several.terms.items) (view x).0 (view x).1 (view x).2 = rw c.in_ok-push.ensures.items (views_push c.several.terms.items x) in
    rw (e, c.next-at.ensures) (several_go_on (grammar_by c.args.reader.now.language c.args.reader.now.arities.now) c.args.reader.now.depth c.args.mode c.args.count c.several.counter c.args.bytes.now (views c.several.terms.items) c.several.at c.several.rest.now c.several.invariant c.several-test.true (view x).0 (view x).1 (view x).2 c.in_ok-term.after.now c.in_ok-term.ensures.gives)

pub several-returns-clause-gives : goal.several-returns-clause-gives
several-returns-clause-gives t c = several_end (grammar_by c.args.reader.now.language c.args.reader.now.arities.now) c.args.reader.now.depth c.args.mode c.args.count c.several.counter c.args.bytes.now (views c.several.terms.items) c.several.at c.several.rest.now c.several.invariant c.several-test.false

pub all-all-init : goal.all-all-init
all-all-init t c = rw c.new-terms.ensures.items (all_begin (reads c.args.reader.now) c.args.mode c.args.bytes.now (bytes_each c.args.bytes.now (λ i. omega (arith, c.type_inv.bytes i))))

pub all-returns-in_err-term-clause-gives : goal.all-returns-in_err-term-clause-gives
all-returns-in_err-term-clause-gives t c =
    let p = err_from_is_err_and c.from_residual.result c.from_residual.ensures.1 in
    let some : 0 < length c.all.rest.now = search rules in
    rw (p.1, p.2) (all_fail (grammar_by c.args.reader.now.language c.args.reader.now.arities.now) c.args.reader.now.depth c.args.mode c.args.bytes.now (views c.all.terms.items) c.all.at c.all.rest.now c.all.invariant some (error_kind c.in_err-term.field-0.0) c.in_err-term.ensures.gives)

pub all-all-smaller : goal.all-all-smaller
all-all-smaller t c =
    let x = c.in_ok-term.term in
    all_shrink (grammar_by c.args.reader.now.language c.args.reader.now.arities.now) c.args.reader.now.depth c.args.mode c.args.bytes.now (views c.all.terms.items) c.all.at c.all.rest.now c.all.invariant (view x).0 (view x).1 (view x).2 c.in_ok-term.after.now c.in_ok-term.ensures.gives

pub all-all-preserved : goal.all-all-preserved
all-all-preserved t c =
    let x = c.in_ok-term.term in
    let some : 0 < length c.all.rest.now = search rules in
    let e : views c.keep.new.terms.items ≡ and_one (views c.all.terms.items) (view x).0 (view x).1 (view x).2 = rw c.in_ok-keep.ensures.items (views_push c.all.terms.items x) in
    rw (e, c.next-at.ensures) (all_go_on (grammar_by c.args.reader.now.language c.args.reader.now.arities.now) c.args.reader.now.depth c.args.mode c.args.bytes.now (views c.all.terms.items) c.all.at c.all.rest.now c.all.invariant some (view x).0 (view x).1 (view x).2 c.in_ok-term.after.now c.in_ok-term.ensures.gives)

pub all-returns-clause-gives : goal.all-returns-clause-gives
all-returns-clause-gives t c =
    let none : c.all.rest.now ≡ [] = nil_from_length c.all.rest.now (search rules) in
    rw c.shrink_to_fit.ensures.items (all_end (grammar_by c.args.reader.now.language c.args.reader.now.arities.now) c.args.reader.now.depth c.args.mode c.args.bytes.now (views c.all.terms.items) c.all.at c.all.rest.now c.all.invariant none)

pub term-returns-in-Ok-clause-gives : goal.term-returns-in-Ok-clause-gives
term-returns-in-Ok-clause-gives t c =
    rw (opened_is (grammar_by c.args.reader.now.language c.args.reader.now.arities.now) c.args.reader.now.depth c.args.mode c.args.bytes.now c.if-reader-eq0.false (seen c.in-Ok.opened) c.in-Ok.ensures.gives) (rw c.within.ensures at c.close.ensures.gives)

pub term-returns-in-Err-clause-gives : goal.term-returns-in-Err-clause-gives
term-returns-in-Err-clause-gives t c =
    rw c.at.ensures.kind (unopened (grammar_by c.args.reader.now.language c.args.reader.now.arities.now) c.args.reader.now.depth c.args.mode c.args.bytes.now c.if-reader-eq0.false (cause_kind c.in-Err.cause) c.in-Err.ensures.gives)

pub block-returns-clause-gives : goal.block-returns-clause-gives
block-returns-clause-gives t c =
    rw c.with.ensures (block_is (reads c.args.reader.now) c.args.reader.now.language c.args.head c.args.inside.now c.args.after.now (views c.in_ok-children.children.items) c.in_ok-children.ensures.gives)

pub close-returns-then-is_empty-clause-gives : goal.close-returns-then-is_empty-clause-gives
close-returns-then-is_empty-clause-gives t c =
    let none : length c.in-FirstAndBlock.inside.now ≡ 0 = search rules in
    rw c.in-FirstAndBlock.is (first_is_missing (grammar_by c.args.reader.now.language c.args.reader.now.arities.now) c.args.reader.now.depth c.in-FirstAndBlock.start c.in-FirstAndBlock.inside.now c.in-FirstAndBlock.after.now none)

pub first_and_block-returns-in_err-first-clause-gives : goal.first_and_block-returns-in_err-first-clause-gives
first_and_block-returns-in_err-first-clause-gives t c =
    let p = err_from_is_err_and c.from_residual.result c.from_residual.ensures.1 in
    rw (p.1, p.2) (first_fails (grammar_by c.args.reader.now.language c.args.reader.now.arities.now) c.args.reader.now.depth c.args.start c.args.inside.now c.args.after.now c.mode-mode.result (c.mode-mode.ensures c.args.reader.now.language) c.requires.some (error_kind c.in_err-first.field-0.0) c.in_err-first.ensures.gives)

pub first_and_block-returns-in_err-others-clause-gives : goal.first_and_block-returns-in_err-others-clause-gives
first_and_block-returns-in_err-others-clause-gives t c =
    let p = err_from_is_err_and c.from_residual-in_err-others.result c.from_residual-in_err-others.ensures.1 in
    let x = c.in_ok-first.first in
    let failed = rw c.next.ensures at c.in_err-others.ensures.gives in
    let filled = bytes_each c.args.inside.now (λ i. omega (arith, c.type_inv.inside i)) in
    rw (p.1, p.2) (others_fail (grammar_by c.args.reader.now.language c.args.reader.now.arities.now) c.args.reader.now.depth c.args.start c.args.inside.now c.args.after.now c.mode-mode.result (c.mode-mode.ensures c.args.reader.now.language) c.requires.some (view x).0 (view x).1 (view x).2 c.in_ok-first.rest.now filled c.in_ok-first.ensures.gives (error_kind c.in_err-others.field-0.0) failed)

pub first_and_block-returns-clause-gives : goal.first_and_block-returns-clause-gives
first_and_block-returns-clause-gives t c =
    let x = c.in_ok-first.first in
    let read = rw c.next.ensures at c.in_ok-others.ensures.gives in
    let boxed = c.in_ok-first-2.ensures.ok in
    let filled = bytes_each c.args.inside.now (λ i. omega (arith, c.type_inv.inside i)) in
    rw (c.with.ensures, boxed) (first_is (grammar_by c.args.reader.now.language c.args.reader.now.arities.now) c.args.reader.now.depth c.args.start c.args.inside.now c.args.after.now c.mode-mode.result (c.mode-mode.ensures c.args.reader.now.language) c.requires.some (view x).0 (view x).1 (view x).2 c.in_ok-first.rest.now filled c.in_ok-first.ensures.gives (views c.in_ok-others.others.items) read)

pub term-returns-in-Ok-clause-shorter : goal.term-returns-in-Ok-clause-shorter
term-returns-in-Ok-clause-shorter t c =
    let gives : Answers (λ x. ((view x.0).0, (view x.0).1, (view x.0).2, x.1.now)) c.close.result (reads c.args.reader.now c.args.mode c.args.bytes.now) = rw (opened_is (grammar_by c.args.reader.now.language c.args.reader.now.arities.now) c.args.reader.now.depth c.args.mode c.args.bytes.now c.if-reader-eq0.false (seen c.in-Ok.opened) c.in-Ok.ensures.gives) (rw c.within.ensures at c.close.ensures.gives) in
    read_shortens _ (grammar_by c.args.reader.now.language c.args.reader.now.arities.now) c.args.reader.now.depth c.args.mode c.args.bytes.now c.close.result (bytes_each c.args.bytes.now (λ i. omega (arith, c.type_inv.bytes i))) gives

pub several-returns-then-reader-gt0-clause-gives : goal.several-returns-then-reader-gt0-clause-gives
several-returns-then-reader-gt0-clause-gives t c =
    let none : c.several.rest.now ≡ [] = nil_from_length c.several.rest.now (search rules) in
    rw c.missing.ensures.kind (several_miss (grammar_by c.args.reader.now.language c.args.reader.now.arities.now) c.args.reader.now.depth c.args.mode c.args.count c.several.counter c.args.bytes.now (views c.several.terms.items) c.several.at c.several.rest.now c.several.invariant c.several-test.true none c.if-reader-gt0.true)
