use Rattle.std.proofs.Common.{◌≡◌, List, length, map, false, sym, ap, ◌∙◌, rules}
use Rattle.acpi_term.specs.View.{views}
use Rattle.acpi_term.specs.declared.term.Term.{Term}
use Rattle.acpi_terms_text.specs.Objects.{callee_by, all_callees}
use Rattle.acpi_terms_text.specs.Scoped.{any, is_unread}
use Rattle.acpi_terms_text.proofs.Wholes.{block_of_part}
use Rattle.acpi_terms_text.proofs.block.block_terms.Goals as goal

pub returns-then-not-any-clause-ok : goal.returns-then-not-any-clause-ok
returns-then-not-any-clause-ok c =
    let further = map callee_by c.args.further.now in
    let none : length c.in_ok-objects.objects.items ≡ 0 = search rules in
    let are = c.in_ok-objects.ensures ∙ ap (λ (l : List Term). all_callees (views l) further) c.deref.ensures.value in
    let whole : any is_unread (views c.in_ok-terms.terms.items) ≡ false =
    ap (λ (l : List Term). any is_unread (views l)) (sym c.deref-then-is_empty.ensures.value) ∙ sym c.any.ensures ∙ c.if-not-any.true
    in
    block_of_part _ _ _ _ c.in_ok-first.ensures _ c.in_ok-terms.ensures _ are none whole
