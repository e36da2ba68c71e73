use Rattle.std.proofs.Common.{◌≡◌, ◌++◌, map, drop}
use Rattle.acpi_rules.specs.Across.{all_counts}
use Rattle.acpi_rules.specs.Link.{column_by}
use Rattle.acpi_rules.proofs.across.push_all_counts.Given as goal

abbrev pub invariant-tables : goal.invariant-tables
invariant-tables l =
    l.numbers.items ++ all_counts (map (λ table. table.now) (drop l.table-index l.tables)) (column_by l.column)
    ≡ l.initial.numbers.items ++ all_counts (map (λ table. table.now) l.tables) (column_by l.column)
