use Rattle.std.proofs.Common.{◌≡◌, ◌++◌, map, drop}
use Rattle.std.specs.List.{flat_map}
use Rattle.acpi_rules.specs.Across.{all_numbers}
use Rattle.acpi_rules.specs.Link.{column_by}
use Rattle.acpi_rules.proofs.across.push_columns.Given as goal

abbrev pub invariant-columns : goal.invariant-columns
invariant-columns l =
    l.numbers.items
    ++ flat_map (all_numbers (map (λ table. table.now) l.tables)) (map column_by (drop l.column-index l.columns))
    ≡ l.initial.numbers.items ++ flat_map (all_numbers (map (λ table. table.now) l.tables)) (map column_by l.columns)
