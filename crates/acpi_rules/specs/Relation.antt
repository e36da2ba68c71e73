-- The findings of rules on several fields.
use Rattle.std.specs.Prelude.{ℕ, if◌then◌else◌, List, [], take, Option}
use Rattle.std.specs.List.{flat_map}
use Rattle.std.specs.Str.{bytes_eq}
use Rattle.acpi_base.specs.declared.walk.Walk.{Walk}
use Rattle.acpi_rules.specs.Apart.{apart_findings}
use Rattle.acpi_rules.specs.Chain.{chain_findings}
use Rattle.acpi_rules.specs.Demand.{Demand, Relation, differs, differs_with, apart, disjoint, points, refers, ends, distances}
use Rattle.acpi_rules.specs.Demand.{differs_in, includes}
use Rattle.acpi_rules.specs.Finding.{Finding}
use Rattle.acpi_rules.specs.Item.{Item, items}
use Rattle.acpi_rules.specs.Matrix.{matrix_findings}
use Rattle.acpi_rules.specs.Order.{number_findings}
use Rattle.acpi_rules.specs.Reference.{targets, target_name, reference_findings, present_findings}
use Rattle.acpi_rules.specs.Sibling.{sibling_findings}

-- what parts of a table break of a demand on their field at an offset, where these are the numbers that are its targets
abbrev pub demand_findings : Demand → ℕ → List ℕ → List ℕ → List Item → List Finding
demand_findings differs at section numbers parts = apart_findings differs section [] parts
demand_findings (differs_with other) at section numbers parts = apart_findings (differs_with other) section [] parts
demand_findings (differs_in kind) at section numbers parts = sibling_findings section numbers [] parts
demand_findings (apart group last) at section numbers parts = apart_findings (apart group last) section [] parts
demand_findings (disjoint size) at section numbers parts = apart_findings (disjoint size) section [] parts
demand_findings (points types) at section numbers parts =
    flat_map (reference_findings section (target_name (points types)) numbers) parts
demand_findings (refers kind spot) at section numbers parts =
    flat_map (reference_findings section (target_name (refers kind spot)) numbers) parts
demand_findings ends at section numbers parts = chain_findings at section parts
demand_findings (distances first) at section numbers parts = flat_map (matrix_findings section first) parts
demand_findings (includes these what) at section numbers parts = flat_map (present_findings section what numbers) parts
demand_findings demand at section numbers parts = flat_map (number_findings demand section) parts

-- what a table breaks of a rule, in the order of its fields
abbrev pub relation_findings : Option Walk → List ℕ → Relation → List Finding
relation_findings walk table row =
    if bytes_eq row.table (take 4 table)
    then demand_findings row.demand row.spot.offset row.section (targets row.demand walk table)
    (items row.among row.spot walk table)
    else []

-- what a table breaks of rules, in the order of the rules
abbrev pub relations_findings : List Relation → Option Walk → List ℕ → List Finding
relations_findings rows walk table = flat_map (relation_findings walk table) rows
