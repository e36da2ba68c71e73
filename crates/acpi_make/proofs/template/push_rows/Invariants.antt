use Rattle.std.proofs.Common.{◌≡◌, ◌++◌, string_bytes, drop}
use Rattle.acpi_make.specs.Template.{rows_lines}
use Rattle.acpi_make.specs.TemplateKnown.{known_of}
use Rattle.acpi_make.proofs.template.push_rows.Given as goal

abbrev pub invariant-rows : goal.invariant-rows
invariant-rows l =
    string_bytes l.text ++ rows_lines l.depth (known_of l.known) l.offset (drop l.row-index l.rows)
    ≡ string_bytes l.initial.text ++ rows_lines l.depth (known_of l.known) l.at l.rows
