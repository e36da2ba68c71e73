use Rattle.std.proofs.Common.{◌≡◌, ◌-◌, ◌<◌, false, [], length, refl, arith, rules}
use Rattle.std.proofs.lemmas.List.{nil_from_length}
use Rattle.acpi_base.proofs.Bytes.{bytes_each}
use Rattle.acpi_term.specs.View.{view, views}
use Rattle.acpi_read.specs.TermReader.{grammar}
use Rattle.acpi_read.specs.TermStart.{first_head}
use Rattle.acpi_read.proofs.TermLists.{and_one, views_push}
use Rattle.acpi_read.specs.InPart.{IsListInPart}
use Rattle.acpi_read.proofs.InParts.{part_begin, part_go_on, part_end, read_is_one, error_is_one, hole_found, error_is_before, branch_is, terms_are_one, branch_is_found, no_branch_found}
use Rattle.acpi_read.proofs.terms.in_part.+part.Goals as goal

pub list-list-init : goal.list-list-init
list-list-init t c =
    rw c.new-terms.ensures.items (part_begin (grammar c.args.reader.now) c.args.reader.now.depth c.args.end c.args.bytes.now (bytes_each c.args.bytes.now (λ i. omega (arith, c.type_inv.bytes i))))

pub list-list-preserved : goal.list-list-preserved
list-list-preserved t c =
    let x = c.in_ok-term.term in
    let e : views c.push.new.self.items ≡ and_one (views c.list.terms.items) (view x).0 (view x).1 (view x).2 = rw c.in_ok-push.ensures.items (views_push c.list.terms.items x) in
    rw e (part_go_on (grammar c.args.reader.now) c.args.reader.now.depth c.args.end c.args.bytes.now (views c.list.terms.items) c.list.rest.now c.list.invariant (view x).0 (view x).1 (view x).2 c.in_ok-term.after.now c.in_ok-term.ensures)

pub list-returns : goal.list-returns
list-returns t c =
    let none : c.list.rest.now ≡ [] = nil_from_length c.list.rest.now (search rules) in
    part_end (grammar c.args.reader.now) c.args.reader.now.depth c.args.end c.args.bytes.now (views c.list.terms.items) c.list.rest.now c.list.invariant none

pub one-returns-in-Ok : goal.one-returns-in-Ok
one-returns-in-Ok t c =
    let x = c.in-Ok.found in
    read_is_one (grammar c.args.reader.now) c.args.reader.now.depth c.args.end c.args.bytes.now ((view x.0).0, (view x.0).1, (view x.0).2, x.1.now) (bytes_each c.args.bytes.now (λ i. omega (arith, c.type_inv.bytes i))) c.in-Ok.ensures.gives

pub one-returns-in-None : goal.one-returns-in-None
one-returns-in-None t c =
    let frameless = c.in_ok-found.ensures.none c.in-None.is in
    hole_found (grammar c.args.reader.now) (λ x. view x.0) (λ x. x.1.now) c.hole.result c.args.reader.now.depth c.args.end c.args.bytes.now c.in-Err.error c.hole.ensures.term c.hole.ensures.after
    (error_is_one (grammar c.args.reader.now) c.args.reader.now.depth c.args.end c.args.bytes.now c.in-Err.error c.in-Err.ensures.gives c.in-Err.ensures.placed (search rules) c.requires.some frameless)

pub branch-returns-in-Err : goal.branch-returns-in-Err
branch-returns-in-Err t c = record {
  some = tt;
  none = λ e. error_is_before (grammar c.args.reader.now) c.args.reader.now.depth (first_head c.args.start) c.args.inside.now c.in-Err.field-0 c.requires.first (search rules) c.in-Err.ensures.gives;
}

pub branch-returns : goal.branch-returns
branch-returns t c =
    let x = c.in-Ok.found in
    let is = branch_is (grammar c.args.reader.now) c.args.reader.now.depth c.args.end c.args.inside.now ((view x.0).0, (view x.0).1, (view x.0).2, x.1.now) (views c.in_ok-others.others.items)
    (bytes_each c.args.inside.now (λ i. omega (arith, c.type_inv.inside i))) c.in-Ok.ensures.gives c.in_ok-others.ensures in
    record {
      some = rw (c.with.ensures, c.in_ok-first.ensures.ok) (record { head = refl; width = refl; some = omega arith; is = is });
      none = λ e. absurd cc;
    }

pub frame-returns-in_ok-children-in-Terms-clause-some : goal.frame-returns-in_ok-children-in-Terms-clause-some
frame-returns-in_ok-children-in-Terms-clause-some t c =
    let at = rw c.in-Terms.is at c.in_ok-head.ensures in
    let is : IsListInPart (grammar c.args.reader.now) (c.args.reader.now.depth - 1) (c.args.end - length c.in-Terms.after.now) false c.in-Terms.inside.now (views c.in_ok-children-in-Terms.children.items) = rw c.within.ensures at c.in_ok-children-in-Terms.ensures in
    rw c.with.ensures (terms_are_one (grammar c.args.reader.now) c.args.reader.now.depth c.args.end c.args.bytes.now (bytes_each c.args.bytes.now (λ i. omega (arith, c.type_inv.bytes i))) (omega (arith, c.if-reader-eq0.false))
    c.in-Terms.head c.in-Terms.inside.now c.in-Terms.after.now (views c.in_ok-children-in-Terms.children.items) at.0 is)

pub frame-returns-in-Some-clause-some : goal.frame-returns-in-Some-clause-some
frame-returns-in-Some-clause-some t c =
    let at = rw c.in-FirstAndTerms.is at c.in_ok-head.ensures in
    let found = rw c.in-Some.is at c.in_ok-term-in-FirstAndTerms.ensures.some in
    branch_is_found (grammar c.args.reader.now) c.args.reader.now.depth c.args.end c.args.bytes.now (bytes_each c.args.bytes.now (λ i. omega (arith, c.type_inv.bytes i))) (omega (arith, c.if-reader-eq0.false))
    c.in-FirstAndTerms.start c.in-FirstAndTerms.inside.now c.in-FirstAndTerms.after.now (view c.in-Some.term).0 (view c.in-Some.term).1 (view c.in-Some.term).2 at.1 at.0 (rw c.within-in-FirstAndTerms.ensures at found)

pub frame-returns-in-None-clause-none : goal.frame-returns-in-None-clause-none
frame-returns-in-None-clause-none t c =
    let at = rw c.in-FirstAndTerms.is at c.in_ok-head.ensures in
    let none = c.in_ok-term-in-FirstAndTerms.ensures.none c.in-None.is in
    λ e. no_branch_found (grammar c.args.reader.now) c.args.reader.now.depth c.args.end c.args.bytes.now (bytes_each c.args.bytes.now (λ i. omega (arith, c.type_inv.bytes i))) (omega (arith, c.if-reader-eq0.false))
    c.in-FirstAndTerms.start c.in-FirstAndTerms.inside.now c.in-FirstAndTerms.after.now at.0 (rw c.within-in-FirstAndTerms.ensures at none)
