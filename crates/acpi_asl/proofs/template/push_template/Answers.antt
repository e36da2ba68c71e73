use Rattle.std.proofs.Common.{◌≡◌, ℕ, false, suc, ◌++◌, ap, ◌∙◌, rules, string_bytes}
use Rattle.std.specs.Prelude.{codes}
use Rattle.acpi_read.proofs.Texts.{after_four}
use Rattle.acpi_asl.specs.Template.{items_text}
use Rattle.acpi_asl.proofs.template.push_template.Goals as goal

pub returns : goal.returns
returns c =
    let inner_is : c.in-Some.inner ≡ suc c.args.depth = search rules in
    after_four _ (codes "ResourceTemplate ()") _ _ _ _ _ _ _ c.in_ok-push_str.ensures.bytes c.in_ok-push_opened.ensures
    (c.in_ok-push_items.ensures ∙ ap (λ (k : ℕ). string_bytes c.push_opened.new.text ++ items_text c.args.tags k false 0 c.args.bytes.now) inner_is) c.in_ok-push_closed.ensures
