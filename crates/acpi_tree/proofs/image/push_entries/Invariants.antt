use Rattle.std.proofs.Common.{◌≡◌, ◌++◌, drop}
use Rattle.std.specs.List.{flat_map}
use Rattle.acpi_tree.specs.Image.{entry}
use Rattle.acpi_tree.proofs.image.push_entries.Given as goal

abbrev pub invariant-entries : goal.invariant-entries
invariant-entries l =
    l.branches.items ++ flat_map (entry l.listing l.pointed) (drop l.table-index l.entries) ≡ l.initial.branches.items ++ flat_map (entry l.listing l.pointed) l.entries
