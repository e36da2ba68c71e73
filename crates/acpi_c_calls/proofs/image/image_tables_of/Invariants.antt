use Rattle.std.proofs.Common.{◌≡◌, ◌++◌, drop, map}
use Rattle.acpi_c_calls.specs.Image.{image_table}
use Rattle.acpi_c_calls.proofs.image.image_tables_of.Given as goal

abbrev pub invariant-tables : goal.invariant-tables
invariant-tables l = l.found.items ++ map image_table (drop l.table-index l.tables) ≡ map image_table l.tables
