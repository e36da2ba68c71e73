use Rattle.std.proofs.Common.{◌≡◌, map, drop}
use Rattle.acpi_rules.specs.Across.{has_table}
use Rattle.acpi_rules.specs.Link.{column_by}
use Rattle.acpi_rules.proofs.across.has_table.Given as goal

abbrev pub invariant-tables : goal.invariant-tables
invariant-tables l =
    has_table (map (λ table. table.now) (drop l.table-index l.tables)) (column_by l.column)
    ≡ has_table (map (λ table. table.now) l.tables) (column_by l.column)
