use Rattle.std.proofs.Common.{rules, arith, ap, sym, ◌∙◌}
use Rattle.acpi_term.proofs.Depths.{first_shallow, others_shallow, element_shallow}
use Rattle.acpi_term.specs.Tree.{depth}
use Rattle.acpi_terms_text.proofs.Scopes.{any_in_first, any_in_others}
use Rattle.acpi_asl.specs.Absent.{uses_name}
use Rattle.acpi_asl.proofs.absent.+uses.Goals as goal

pub use_names-uses_names-requires : goal.use_names-uses_names-requires
use_names-uses_names-requires t c =
    let shallow = element_shallow c.args.terms.now c.loop-term.term-index c.term-item.result c.loop-term-test.true c.term-item.is in
    (omega (arith, shallow, c.decreases), search rules)

pub uses_names-use_names-requires : goal.uses_names-use_names-requires
uses_names-use_names-requires t c =
    let p = c.parts_of-parts.result in
    let shallow = first_shallow p.first.now p.others.now in
    (omega (arith, shallow, ap depth c.parts_of-parts.ensures.children, c.decreases), search rules)

pub uses_names-use_names-requires-2 : goal.uses_names-use_names-requires-2
uses_names-use_names-requires-2 t c =
    let p = c.parts_of-parts.result in
    let shallow = others_shallow p.first.now p.others.now in
    (omega (arith, shallow, ap depth c.parts_of-parts.ensures.children, c.decreases), search rules)

pub uses_names-returns-then-use_names : goal.uses_names-returns-then-use_names
uses_names-returns-then-use_names t c =
    let p = c.parts_of-parts.result in
    any_in_first uses_name c.args.term.now _ _ p.first.now p.others.now c.parts_of-parts.ensures (sym c.uses_name.ensures ∙ c.if-uses_name.false) (sym c.use_names.ensures ∙ c.if-use_names.true)

pub uses_names-returns : goal.uses_names-returns
uses_names-returns t c =
    let p = c.parts_of-parts.result in
    any_in_others uses_name c.args.term.now _ _ p.first.now p.others.now c.parts_of-parts.ensures _ (sym c.uses_name.ensures ∙ c.if-uses_name.false) (sym c.use_names.ensures ∙ c.if-use_names.false) c.use_names-2.ensures
