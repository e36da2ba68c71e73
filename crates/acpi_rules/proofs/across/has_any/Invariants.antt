use Rattle.std.proofs.Common.{◌≡◌, map, drop}
use Rattle.acpi_rules.specs.Across.{has_any}
use Rattle.acpi_rules.specs.Link.{column_by}
use Rattle.acpi_rules.proofs.across.has_any.Given as goal

abbrev pub invariant-columns : goal.invariant-columns
invariant-columns l =
    has_any (map (λ table. table.now) l.tables) (map column_by (drop l.column-index l.columns))
    ≡ has_any (map (λ table. table.now) l.tables) (map column_by l.columns)
