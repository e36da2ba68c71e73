use Rattle.std.proofs.Common.{string_bytes}
use Rattle.acpi_read.specs.Lines.{hex_bytes}
use Rattle.acpi_read.proofs.Texts.{Goes}
use Rattle.acpi_read.proofs.report.words.push_hex.Given as goal

abbrev pub invariant-loop-byte : goal.invariant-loop-byte
invariant-loop-byte l = Goes hex_bytes l.bytes l.byte-index (string_bytes l.initial.text) (string_bytes l.text)
