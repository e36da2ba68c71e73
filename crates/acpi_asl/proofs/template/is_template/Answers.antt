use Rattle.std.proofs.Common.{◌≡◌, ◌∷◌, rules}
use Rattle.acpi_asl.proofs.Items.{test_goes_on}
use Rattle.acpi_asl.proofs.template.is_template.Goals as goal

pub items-preserved : goal.items-preserved
items-preserved c =
    let tag = c.in-Some.tag.now in
    let more = c.in-Some.more.now in
    let is : c.items.rest.now ≡ tag ∷ more = search rules in
    test_goes_on c.args.bytes.now c.items.rest.now c.from_offset-rest.result.now more _ c.items.inside _ tag _ _ is c.if-tag-eq121.false c.item_size-size.ensures c.goes_on.ensures (search rules) c.from_offset-rest.ensures c.is_inside-inside.ensures c.items.invariant
