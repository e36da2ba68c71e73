use Rattle.std.proofs.Common.{◌≡◌, ◌+◌, ◌≤◌, length}
use Rattle.acpi_dump.specs.Lines.{lines}
use Rattle.acpi_dump.specs.Dump.{read, latest_first, tables_of}
use Rattle.acpi_dump.proofs.dump.tables_of.Given as goal

abbrev pub invariant-lines : goal.invariant-lines
invariant-lines l = record {
  few : l.number + length l.rest ≤ length l.text;
  so_far : read (l.number + 1) (latest_first l.tables) (lines l.rest) ≡ tables_of l.text;
}

abbrev pub decreases-lines : goal.decreases-lines
decreases-lines l = length l.rest
