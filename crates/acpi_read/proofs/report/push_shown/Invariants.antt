use Rattle.std.proofs.Common.{map, string_bytes}
use Rattle.acpi_read.specs.Report.{printable}
use Rattle.acpi_read.proofs.Texts.{Goes}
use Rattle.acpi_read.proofs.report.push_shown.Given as goal

abbrev pub invariant-loop-byte : goal.invariant-loop-byte
invariant-loop-byte l = Goes (map printable) l.name l.byte-index (string_bytes l.initial.text) (string_bytes l.text)
