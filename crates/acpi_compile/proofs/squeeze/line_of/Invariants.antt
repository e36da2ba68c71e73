use Rattle.std.proofs.Common.{◌≡◌, ◌+◌, ◌≤◌, drop}
use Rattle.acpi_compile.specs.Squeeze.{line_from, line_of}
use Rattle.acpi_compile.proofs.squeeze.line_of.Given as goal

abbrev pub invariant-characters : goal.invariant-characters
invariant-characters l = (l.line + line_from l.state l.left (drop l.c-index l.unmarked) ≡ line_of l.at l.text) × (l.line ≤ l.c-index + 1)
