use Rattle.std.proofs.Common.{◌≡◌, drop}
use Rattle.acpi_base.specs.Walk.{find_row}
use Rattle.acpi_base.proofs.walk.find_row.Given as goal

abbrev pub invariant-loop-row : goal.invariant-loop-row
invariant-loop-row g l = find_row l.signature (drop l.row-index l.rows) ≡ find_row l.signature l.rows
