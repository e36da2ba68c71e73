use Rattle.std.proofs.Common.{◌≡◌, List, length, map, ap, ◌∙◌, rules}
use Rattle.acpi_term.specs.View.{views}
use Rattle.acpi_term.specs.declared.term.Term.{Term}
use Rattle.acpi_terms_text.specs.Objects.{callee_by, all_callees}
use Rattle.acpi_terms_text.proofs.Wholes.{block_in_part}
use Rattle.acpi_terms_text.proofs.block.block_terms_in_part.Goals as goal

pub returns-then-is_empty : goal.returns-then-is_empty
returns-then-is_empty c =
    let further = map callee_by c.args.further.now in
    let none : length c.in_ok-objects.objects.items ≡ 0 = search rules in
    let are = c.in_ok-objects.ensures ∙ ap (λ (l : List Term). all_callees (views l) further) c.deref.ensures.value in
    block_in_part _ _ _ _ c.in_ok-first.ensures _ c.in_ok-terms.ensures _ are none
