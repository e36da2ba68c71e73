use Rattle.std.proofs.Common.{◌≡◌, ◌&&◌, Bool, rules, arith, ap, sym, ◌∙◌}
use Rattle.acpi_term.proofs.Depths.{first_shallow, others_shallow, element_shallow}
use Rattle.acpi_term.specs.Tree.{depth}
use Rattle.acpi_term.specs.View.{views, head_of}
use Rattle.acpi_terms_text.specs.Objects.{inside}
use Rattle.acpi_asl.specs.Absent.{all_found}
use Rattle.acpi_asl.proofs.Absents.{found_over_as}
use Rattle.acpi_asl.proofs.absent.+found.Goals as goal
use Rattle.acpi_asl.proofs.absent.+found.Goals.{are_found_in-then-branch+in_ok-are_found-2, are_found_in-else-branch}

pub are_found-are_found_in-requires : goal.are_found-are_found_in-requires
are_found-are_found_in-requires t c =
    let shallow = element_shallow c.args.terms.now c.loop-term.term-index c.term-item.result c.loop-term-test.true c.term-item.is in
    (omega (arith, shallow, c.decreases), search rules)

pub are_found_in-are_found-requires : goal.are_found_in-are_found-requires
are_found_in-are_found-requires t c =
    let p = c.parts_of-parts.result in
    let shallow = first_shallow p.first.now p.others.now in
    (omega (arith, shallow, ap depth c.parts_of-parts.ensures.children, c.decreases), search rules)

pub are_found_in-are_found-requires-then-branch : goal.are_found_in-are_found-requires-then-branch
are_found_in-are_found-requires-then-branch t c =
    let p = c.parts_of-parts.result in
    let shallow = others_shallow p.first.now p.others.now in
    (omega (arith, shallow, ap depth c.parts_of-parts.ensures.children, c.decreases), search rules)

pub are_found_in-returns : goal.are_found_in-returns
are_found_in-returns t c =
    let p = c.parts_of-parts.result in
    let known = c.args.known.now in
    let scope = c.args.scope.now in
    let inner = c.inner_scope-inner.result.now in
    let others = all_found known inner (views p.others.now) in
    let into : inner ≡ inside scope (head_of p.kind) = search rules in
    let own = sym c.in_ok-own_found.ensures ∙ c.if-not-branch.false in
    let both : c.if-branch.result ≡ (all_found known inner (views p.first.now) && others) =
    elim c.if-branch.branch [
      | are_found_in-then-branch+in_ok-are_found-2 w ↦
          w.result-is ∙ w.in_ok-are_found-2.ensures ∙ ap (λ (l : Bool). l && others) (sym (sym c.in_ok-are_found.ensures ∙ w.if-branch.true))
      | are_found_in-else-branch w ↦ w.result-is ∙ w.if-branch.false ∙ ap (λ (l : Bool). l && others) (sym (sym c.in_ok-are_found.ensures ∙ w.if-branch.false))
    ]
    in
    found_over_as known scope inner c.args.term.now _ _ p.first.now p.others.now c.parts_of-parts.ensures into own c.if-branch.result both
