use Rattle.std.proofs.Common.{◌≡◌, drop}
use Rattle.acpi_make.specs.Complete.{known}
use Rattle.acpi_make.specs.Gives.{with_front}
use Rattle.acpi_make.proofs.complete.known.Given as goal

abbrev pub invariant-cells : goal.invariant-cells
invariant-cells l = with_front l.bytes.items (known (drop l.cell-index l.cells)) ≡ known l.cells
