use Rattle.std.proofs.Common.{◌≡◌, ◌∷◌, ◌++◌, drop, string_bytes, rules}
use Rattle.std.specs.Prelude.{codes}
use Rattle.acpi_terms_text.specs.Descriptor.{item_size, item_name}
use Rattle.acpi_terms_text.proofs.Templates.{text_goes_on, name_added}
use Rattle.acpi_terms_text.proofs.descriptor.push_template.Goals as goal

pub items-preserved : goal.items-preserved
items-preserved c =
    let tag = c.in-Some.tag.now in
    let more = c.in-Some.more.now in
    let is : c.items.rest.now ≡ tag ∷ more = search rules in
    let next : c.from_offset-rest.result.now ≡ drop (item_size (tag ∷ more)) c.items.rest.now = search rules in
    let added : string_bytes c.push_str-in-Some-3.new.self ≡ string_bytes c.items.text ++ (item_name tag more ++ codes ", ") = search (rules, name_added) in
    text_goes_on _ (string_bytes c.items.text) c.items.rest.now c.from_offset-rest.result.now more _ tag is c.if-tag-eq121.false next added c.items.invariant
