use Rattle.std.proofs.Common.{◌≡◌, ◌++◌, drop}
use Rattle.std.specs.List.{flat_map}
use Rattle.acpi_tree.specs.Image.{branch_line}
use Rattle.acpi_tree.proofs.image.push_branch_lines.Given as goal

abbrev pub invariant-branches : goal.invariant-branches
invariant-branches l =
    l.text.items ++ flat_map branch_line (drop l.branch-index l.branches) ≡ l.initial.text.items ++ flat_map branch_line l.branches
