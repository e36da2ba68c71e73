use Rattle.std.proofs.Common.{◌≡◌, drop}
use Rattle.acpi_base.specs.Walk.{find_size}
use Rattle.acpi_base.proofs.walk.find_size.Given as goal

abbrev pub invariant-loop-row : goal.invariant-loop-row
invariant-loop-row l = find_size l.kind (drop l.row-index l.rows) ≡ find_size l.kind l.rows
