use Rattle.std.proofs.Common.{◌≡◌, ◌++◌, ◌-◌, [], length, map, take, drop}
use Rattle.acpi_rules.specs.Finding.{noted}
use Rattle.acpi_rules.specs.Item.{item_by}
use Rattle.acpi_rules.specs.Sibling.{sibling_findings}
use Rattle.acpi_rules.proofs.sibling.check_siblings.Given as goal

abbrev pub invariant-items : goal.invariant-items
invariant-items l =
    map noted l.findings.items
    ++ sibling_findings l.section l.starts (map item_by (take l.at l.items)) (map item_by (drop l.at l.items))
    ≡ map noted l.initial.findings.items ++ sibling_findings l.section l.starts [] (map item_by l.items)

abbrev pub decreases-items : goal.decreases-items
decreases-items l = length l.items - l.at
