use Rattle.std.proofs.Common.{◌≡◌, ◌∷◌, ◌==◌, false, length, drop, rules}
use Rattle.acpi_terms_text.specs.Descriptor.{item_size, item_type, names}
use Rattle.acpi_terms_text.specs.Word.{word_in}
use Rattle.acpi_terms_text.proofs.Templates.{test_goes_on}
use Rattle.acpi_terms_text.proofs.descriptor.is_template.Goals as goal

pub items-preserved : goal.items-preserved
items-preserved c =
    let tag = c.in-Some.tag.now in
    let more = c.in-Some.more.now in
    let is : c.items.rest.now ≡ tag ∷ more = search rules in
    let named : (length (word_in names (item_type tag)) == 0) ≡ false = search rules in
    let next : c.from_offset-rest.result.now ≡ drop (item_size (tag ∷ more)) c.items.rest.now = search rules in
    test_goes_on c.args.bytes.now c.items.rest.now c.from_offset-rest.result.now more tag is c.if-tag-eq121.false named next c.items.invariant
