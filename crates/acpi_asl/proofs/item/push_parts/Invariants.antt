use Rattle.std.proofs.Common.{◌≡◌, ◌++◌, drop, string_bytes}
use Rattle.std.specs.Prelude.{true}
use Rattle.acpi_asl.specs.Template.{parts_text}
use Rattle.acpi_asl.proofs.item.push_parts.Given as goal

abbrev pub invariant-parts : goal.invariant-parts
invariant-parts l =
    string_bytes l.text ++ parts_text l.item l.n l.first (drop l.part-index l.parts) ≡ string_bytes l.initial.text ++ parts_text l.item l.n true l.parts
