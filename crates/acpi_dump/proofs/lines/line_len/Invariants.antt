use Rattle.std.proofs.Common.{◌≡◌, ◌+◌, drop}
use Rattle.acpi_dump.specs.Lines.{line_len}
use Rattle.acpi_dump.proofs.lines.line_len.Given as goal

abbrev pub invariant-bytes : goal.invariant-bytes
invariant-bytes l = l.i + line_len (drop l.i l.text) ≡ line_len l.text
