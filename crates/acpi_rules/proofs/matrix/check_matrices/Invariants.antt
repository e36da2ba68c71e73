use Rattle.std.proofs.Common.{◌≡◌, ◌++◌, map, drop}
use Rattle.std.specs.List.{flat_map}
use Rattle.acpi_rules.specs.Demand.{spot_by}
use Rattle.acpi_rules.specs.Finding.{noted}
use Rattle.acpi_rules.specs.Item.{item_by}
use Rattle.acpi_rules.specs.Matrix.{matrix_findings}
use Rattle.acpi_rules.proofs.matrix.check_matrices.Given as goal

abbrev pub invariant-items : goal.invariant-items
invariant-items l =
    map noted l.findings.items ++ flat_map (matrix_findings l.section (spot_by l.first)) (map item_by (drop l.item-index l.items))
    ≡ map noted l.initial.findings.items ++ flat_map (matrix_findings l.section (spot_by l.first)) (map item_by l.items)
