use Rattle.std.proofs.Common.{◌≡◌, ◌∙◌, length, arith}
use Rattle.acpi_forms.proofs.Meant.{meant_four}
use Rattle.acpi_forms.proofs.known.meant.Goals as goal

pub returns-in-len4 : goal.returns-in-len4
returns-in-len4 c =
    let four : length c.args.name.now ≡ 4 = let least = c.in-len4.len_at_least in let most = c.in-len4.len_below in omega (arith, least, most) in
    c.meant_by.ensures
    ∙ meant_four c.args.name.now _ _ _ _ four c.to_ascii_uppercase.ensures.value c.to_ascii_uppercase-in-len4.ensures.value
    c.to_ascii_uppercase-in-len4-2.ensures.value c.to_ascii_uppercase-in-len4-3.ensures.value
