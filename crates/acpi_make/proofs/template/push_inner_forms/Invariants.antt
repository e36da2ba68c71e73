use Rattle.std.proofs.Common.{◌≡◌, ◌++◌, string_bytes, drop}
use Rattle.acpi_make.specs.Template.{inner_forms_lines}
use Rattle.acpi_make.proofs.template.push_inner_forms.Given as goal

abbrev pub invariant-forms : goal.invariant-forms
invariant-forms l =
    string_bytes l.text ++ inner_forms_lines (drop l.form-index l.forms) ≡ string_bytes l.initial.text ++ inner_forms_lines l.forms
