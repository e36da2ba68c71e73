use Rattle.std.proofs.Common.{◌≡◌, ◌*◌, length}
use Rattle.acpi_example.proofs.topology.topology.Given as goal

abbrev pub invariant-packages : goal.invariant-packages
invariant-packages l = length l.table.table.table.structures ≡ 6 * l.number
