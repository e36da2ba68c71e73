use Rattle.std.proofs.Common.{◌≡◌, ◌++◌, true, drop, string_bytes}
use Rattle.acpi_base.specs.Look.{bits_of}
use Rattle.acpi_text.specs.Note.{bits_text}
use Rattle.acpi_text.proofs.note.push_bits.Given as goal

abbrev pub invariant-parts : goal.invariant-parts
invariant-parts l =
    string_bytes l.text ++ bits_text (bits_of (drop l.part-index l.parts)) l.left.first l.left.number
    ≡ string_bytes l.initial.text ++ bits_text (bits_of l.parts) true l.number
