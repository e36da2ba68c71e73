use Rattle.std.proofs.Common.{string_bytes}
use Rattle.acpi_read.proofs.Texts.{Goes}
use Rattle.acpi_asl.specs.Number.{string_bytes_text}
use Rattle.acpi_asl.proofs.number.push_string_bytes.Given as goal

abbrev pub invariant-loop-byte : goal.invariant-loop-byte
invariant-loop-byte l = Goes (string_bytes_text l.escape) l.bytes l.byte-index (string_bytes l.initial.text) (string_bytes l.text)
