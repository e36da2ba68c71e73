use Rattle.std.proofs.Common.{◌≡◌, ◌++◌, drop, string_bytes}
use Rattle.acpi_asl.specs.Row.{bytes_text}
use Rattle.acpi_asl.proofs.row.push_bytes.Given as goal

abbrev pub invariant-loop-i : goal.invariant-loop-i
invariant-loop-i l = string_bytes l.text ++ bytes_text l.depth l.i (drop l.i l.bytes) ≡ string_bytes l.initial.text ++ bytes_text l.depth 0 l.bytes
