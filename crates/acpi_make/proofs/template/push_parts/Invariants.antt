use Rattle.std.proofs.Common.{◌≡◌, ◌++◌, string_bytes, drop}
use Rattle.acpi_make.specs.Template.{parts_lines}
use Rattle.acpi_make.specs.TemplateKnown.{known_of}
use Rattle.acpi_make.proofs.template.push_parts.Given as goal

abbrev pub invariant-parts : goal.invariant-parts
invariant-parts l =
    string_bytes l.text ++ parts_lines l.depth (known_of l.known) l.offset (drop l.part-index l.parts)
    ≡ string_bytes l.initial.text ++ parts_lines l.depth (known_of l.known) l.at l.parts
