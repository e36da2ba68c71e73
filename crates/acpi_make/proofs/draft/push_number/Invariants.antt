use Rattle.std.proofs.Common.{◌≡◌, ◌++◌}
use Rattle.acpi_base.specs.Bytes.{le}
use Rattle.acpi_make.specs.Item.{known_cells}
use Rattle.acpi_make.proofs.draft.push_number.Given as goal

abbrev pub invariant-bytes : goal.invariant-bytes
invariant-bytes l = l.cells.items ++ known_cells (le l.left l.rest) ≡ l.initial.cells.items ++ known_cells (le l.width l.number)

abbrev pub decreases-bytes : goal.decreases-bytes
decreases-bytes l = l.left
