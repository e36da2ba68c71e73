use Rattle.std.proofs.Common.{◌≡◌, ◌+◌, ◌≤◌, drop}
use Rattle.acpi_make.specs.Fault.{line_after, column_after}
use Rattle.acpi_make.proofs.fault.find_position.Given as goal

abbrev pub invariant-characters : goal.invariant-characters
invariant-characters l = record {
  line_within : l.line ≤ l.character-index + 1;
  column_within : l.column ≤ l.character-index + 1;
  line : line_after l.line (drop l.character-index l.before) ≡ line_after 1 l.before;
  column : column_after l.column (drop l.character-index l.before) ≡ column_after 1 l.before;
}
