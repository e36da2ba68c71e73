use Rattle.std.proofs.Common.{ℕ, List, string_bytes}
use Rattle.acpi_read.proofs.Texts.{Goes}
use Rattle.acpi_read.proofs.report.words.push_ascii.Given as goal

abbrev pub invariant-loop-byte : goal.invariant-loop-byte
invariant-loop-byte l = Goes (λ (s : List ℕ). s) l.bytes l.byte-index (string_bytes l.initial.text) (string_bytes l.text)
