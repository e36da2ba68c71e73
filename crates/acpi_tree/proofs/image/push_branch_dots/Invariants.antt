use Rattle.std.proofs.Common.{◌≡◌, ◌++◌, drop}
use Rattle.std.specs.List.{flat_map}
use Rattle.acpi_tree.specs.Image.{branch_dot}
use Rattle.acpi_tree.proofs.image.push_branch_dots.Given as goal

abbrev pub invariant-branches : goal.invariant-branches
invariant-branches l =
    l.text.items ++ flat_map branch_dot (drop l.branch-index l.branches) ≡ l.initial.text.items ++ flat_map branch_dot l.branches
