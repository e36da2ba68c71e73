-- Resource templates.
use Rattle.std.proofs.Common.{◌≡◌, ℕ, List, [], ◌∷◌, ◌++◌, map, None, Some, refl, ap, ◌∙◌, append_assoc}
use Rattle.std.specs.Prelude.{Option}
use Rattle.acpi_base.specs.declared.error.Error.{Error}
use Rattle.acpi_base.specs.Object.{Object, all_of, ended}
use Rattle.acpi_base.proofs.Lists.{joined_whole, chain_whole}
use Rattle.acpi_term.specs.Template.{end_tag, template_bytes, buffer_of_bytes}
use Rattle.acpi_term.proofs.Rows.{ended_none}
use Rattle.acpi_ops.specs.Item.{IsItem, AreItems, SplitsInto}
use Rattle.acpi_ops.specs.Laws.{TemplatesSplit}

end_tag_is_item : IsItem end_tag
end_tag_is_item = record { size = refl }

splits : (objects : List Object) → (all_of objects).end ≡ None → AreItems (map (λ o. o.front) objects) → SplitsInto (template_bytes (all_of objects).front) (map (λ o. o.front) objects ++ end_tag ∷ [])
splits [] whole items = ((end_tag_is_item, tt), refl)
splits (o ∷ os) whole items =
    let both = joined_whole o.front o.wants_memory (all_of os) o.end whole in
    let rest = splits os both.1 items.1 in
    let front : (all_of (o ∷ os)).front ≡ o.front ++ (all_of os).front = ap (λ (p : Object). p.front) (chain_whole o (all_of os) both.0) in (
      (items.0, rest.0),
      ap template_bytes front ∙ append_assoc o.front (all_of os).front end_tag ∙ ap (λ (l : List ℕ). o.front ++ l) rest.1,
    )

not_ended : (stop : Option Error) (o : Object) → stop ≡ None → ended stop o ≡ o
not_ended None o is = refl
not_ended (Some e) o is = absurd cc

pub templates_split : TemplatesSplit
templates_split objects whole items =
    let buffer = buffer_of_bytes (template_bytes (all_of objects).front) in
    let none = (ended_none (all_of objects).end buffer whole).0 in
    record { is = not_ended (all_of objects).end buffer none; splits = splits objects none items }
