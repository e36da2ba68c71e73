use Rattle.std.proofs.Common.{◌≡◌}
use Rattle.acpi_make.specs.Short.{any_left}
use Rattle.acpi_make.proofs.short.any_left.Given as goal

abbrev pub invariant-cells : goal.invariant-cells
invariant-cells l = any_left l.left l.rest ≡ any_left l.width l.cells

abbrev pub decreases-cells : goal.decreases-cells
decreases-cells l = l.left
