use Rattle.std.proofs.Common.{◌≡◌, ◌++◌, string_bytes, drop}
use Rattle.acpi_base.specs.Look.{bits_of}
use Rattle.acpi_make.specs.Template.{more_parts}
use Rattle.acpi_make.proofs.template.push_more_parts.Given as goal

abbrev pub invariant-parts : goal.invariant-parts
invariant-parts l =
    string_bytes l.text ++ more_parts (bits_of (drop l.part-index l.parts)) ≡ string_bytes l.initial.text ++ more_parts (bits_of l.parts)
