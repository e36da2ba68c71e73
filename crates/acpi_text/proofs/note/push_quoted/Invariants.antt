use Rattle.std.proofs.Common.{◌≡◌, ◌++◌, drop, string_bytes}
use Rattle.acpi_text.proofs.note.push_quoted.Given as goal

abbrev pub invariant-bytes : goal.invariant-bytes
invariant-bytes l = string_bytes l.text ++ drop l.byte-index l.bytes ≡ string_bytes l.initial.text ++ l.bytes
