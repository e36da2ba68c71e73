use Rattle.std.proofs.Common.{◌≡◌, ◌++◌, string_bytes, drop}
use Rattle.acpi_make.specs.Template.{structures_lines}
use Rattle.acpi_make.proofs.template.push_list.Given as goal

abbrev pub invariant-forms : goal.invariant-forms
invariant-forms l =
    string_bytes l.text ++ structures_lines l.walk (drop l.form-index l.forms)
    ≡ string_bytes l.initial.text ++ structures_lines l.walk l.forms
