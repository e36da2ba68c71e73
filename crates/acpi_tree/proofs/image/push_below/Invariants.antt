use Rattle.std.proofs.Common.{◌≡◌, ◌++◌, map, drop}
use Rattle.acpi_tree.specs.Image.{below}
use Rattle.acpi_tree.proofs.image.push_below.Given as goal

abbrev pub invariant-tables : goal.invariant-tables
invariant-tables l =
    l.branches.items ++ map (below l.fadt) (drop l.table-index l.pointed) ≡ l.initial.branches.items ++ map (below l.fadt) l.pointed
