use Rattle.std.proofs.Common.{◌≡◌, ◌++◌, map, drop}
use Rattle.acpi_rules.specs.Finding.{noted}
use Rattle.acpi_rules.specs.Single.{once_by, singles_findings}
use Rattle.acpi_rules.proofs.single.check_all_singles.Given as goal

abbrev pub invariant-rows : goal.invariant-rows
invariant-rows l =
    map noted l.findings.items
    ++ singles_findings (map once_by (drop l.row-index l.rows)) (map (λ table. table.now) l.tables) l.table
    ≡ map noted l.initial.findings.items ++ singles_findings (map once_by l.rows) (map (λ table. table.now) l.tables) l.table
