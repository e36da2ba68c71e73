use Rattle.std.proofs.Common.{rules, arith, ap, sym, ◌∙◌}
use Rattle.acpi_term.proofs.Depths.{first_shallow, others_shallow, element_shallow}
use Rattle.acpi_term.specs.Tree.{depth}
use Rattle.acpi_terms_text.specs.Scoped.{sought}
use Rattle.acpi_terms_text.proofs.Scopes.{any_in_first, any_in_others}
use Rattle.acpi_terms_text.proofs.scoped.+any.Goals as goal

pub any-has-requires : goal.any-has-requires
any-has-requires t c =
    let shallow = element_shallow c.args.terms.now c.loop-term.term-index c.term-item.result c.loop-term-test.true c.term-item.is in
    (omega (arith, shallow, c.decreases), search rules)

pub has-any-requires : goal.has-any-requires
has-any-requires t c =
    let p = c.parts_of-parts.result in
    let shallow = first_shallow p.first.now p.others.now in
    (omega (arith, shallow, ap depth c.parts_of-parts.ensures.children, c.decreases), search rules)

pub has-any-requires-2 : goal.has-any-requires-2
has-any-requires-2 t c =
    let p = c.parts_of-parts.result in
    let shallow = others_shallow p.first.now p.others.now in
    (omega (arith, shallow, ap depth c.parts_of-parts.ensures.children, c.decreases), search rules)

pub has-returns-then-any : goal.has-returns-then-any
has-returns-then-any t c =
    let p = c.parts_of-parts.result in
    any_in_first (sought c.args.sought) c.args.term.now _ _ p.first.now p.others.now c.parts_of-parts.ensures (sym c.is_sought.ensures ∙ c.if-is_sought.false) (sym c.any.ensures ∙ c.if-any.true)

pub has-returns : goal.has-returns
has-returns t c =
    let p = c.parts_of-parts.result in
    any_in_others (sought c.args.sought) c.args.term.now _ _ p.first.now p.others.now c.parts_of-parts.ensures _ (sym c.is_sought.ensures ∙ c.if-is_sought.false) (sym c.any.ensures ∙ c.if-any.false) c.any-2.ensures
