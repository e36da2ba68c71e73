use Rattle.std.proofs.Common.{◌≡◌, List, [], length, map, ap, ◌∙◌, rules}
use Rattle.acpi_term.specs.View.{views}
use Rattle.acpi_term.specs.declared.term.Term.{Term}
use Rattle.acpi_terms_text.specs.Objects.{callee_by, all_callees}
use Rattle.acpi_terms_text.proofs.Scopes.{scoped_kept}
use Rattle.acpi_terms_text.proofs.scoped.in_scopes.Goals as goal

pub returns-then-is_empty : goal.returns-then-is_empty
returns-then-is_empty c =
    let further = map callee_by c.args.further.now in
    let none : length c.in_ok-objects.objects.items ≡ 0 = search rules in
    scoped_kept c.args.stated.now c.args.own.now [] c.in_ok-objects.objects.items _ _ (views c.args.terms.items) none (c.in_ok-objects.ensures ∙ ap (λ (l : List Term). all_callees (views l) further) c.deref.ensures.value)
