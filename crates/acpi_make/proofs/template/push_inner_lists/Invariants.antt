use Rattle.std.proofs.Common.{◌≡◌, ◌++◌, string_bytes, drop}
use Rattle.acpi_make.specs.Template.{inner_lists_lines}
use Rattle.acpi_make.proofs.template.push_inner_lists.Given as goal

abbrev pub invariant-lists : goal.invariant-lists
invariant-lists l =
    string_bytes l.text ++ inner_lists_lines (drop l.list-index l.lists) ≡ string_bytes l.initial.text ++ inner_lists_lines l.lists
