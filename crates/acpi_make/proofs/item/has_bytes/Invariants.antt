use Rattle.std.proofs.Common.{◌≡◌, drop}
use Rattle.acpi_make.specs.Item.{cells_of}
use Rattle.acpi_make.proofs.item.has_bytes.Given as goal

abbrev pub invariant-items : goal.invariant-items
invariant-items l = cells_of (drop l.item-index l.items) ≡ cells_of l.items
