use Rattle.std.proofs.Common.{◌≡◌, take, map}
use Rattle.acpi_layout.specs.Addresses.{image_at}
use Rattle.acpi_layout.specs.Found.{contents}
use Rattle.acpitool_program.proofs.unpacking.located.Given as goal

abbrev pub invariant-tables : goal.invariant-tables
invariant-tables l = map (λ table. table.now) l.all.items ≡ map (contents (image_at l.base l.bytes)) (take l.table-index l.tables)
