use Rattle.std.proofs.Common.{◌≡◌, ◌∷◌, rules, string_bytes}
use Rattle.acpi_asl.proofs.Items.{text_goes_on}
use Rattle.acpi_asl.proofs.template.push_items.Goals as goal

pub items-preserved : goal.items-preserved
items-preserved c =
    let tag = c.in-Some.tag.now in
    let more = c.in-Some.more.now in
    let is : c.items.rest.now ≡ tag ∷ more = search rules in
    text_goes_on c.args.tags c.args.depth c.items.inside _ _ (string_bytes c.items.text) c.items.rest.now c.from_offset-rest.result.now more _ tag _ is c.if-tag-eq121.false c.item_size-size.ensures c.from_offset-rest.ensures c.is_inside-inside.ensures c.in_ok-push_item_line.ensures c.items.invariant
