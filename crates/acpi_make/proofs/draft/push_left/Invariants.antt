use Rattle.std.proofs.Common.{◌≡◌, ◌++◌, replicate}
use Rattle.acpi_make.specs.declared.item.Cell.TheVariants.{Left}
use Rattle.acpi_make.proofs.draft.push_left.Given as goal

abbrev pub invariant-bytes : goal.invariant-bytes
invariant-bytes l = l.cells.items ++ replicate l.left (Left l.place) ≡ l.initial.cells.items ++ replicate l.width (Left l.place)

abbrev pub decreases-bytes : goal.decreases-bytes
decreases-bytes l = l.left
