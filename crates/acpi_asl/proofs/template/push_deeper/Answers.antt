use Rattle.std.proofs.Common.{◌≡◌, ℕ, suc, ◌++◌, subst, rules, string_bytes}
use Rattle.std.specs.Prelude.{OnOk}
use Rattle.acpi_asl.specs.Place.{new_line}
use Rattle.acpi_asl.proofs.template.push_deeper.Goals as goal

pub returns : goal.returns
returns c =
    let inner_is : c.in-Some.inner ≡ suc c.args.depth = search rules in
    subst (λ (k : ℕ). OnOk c.push_line.result (string_bytes c.push_line.new.text ≡ string_bytes c.args.text.now ++ new_line k)) inner_is c.push_line.ensures
