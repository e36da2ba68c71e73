use Rattle.std.proofs.Common.{◌≡◌, ◌++◌, map, drop}
use Rattle.acpi_rules.specs.Across.{links_findings}
use Rattle.acpi_rules.specs.Finding.{noted}
use Rattle.acpi_rules.specs.Link.{link_by}
use Rattle.acpi_rules.proofs.across.check_links.Given as goal

abbrev pub invariant-rows : goal.invariant-rows
invariant-rows l =
    map noted l.findings.items
    ++ links_findings (map link_by (drop l.row-index l.rows)) (map (λ table. table.now) l.tables) l.table
    ≡ map noted l.initial.findings.items ++ links_findings (map link_by l.rows) (map (λ table. table.now) l.tables) l.table
