use Rattle.std.proofs.Common.{◌≡◌, ◌++◌, drop}
use Rattle.std.specs.List.{flat_map}
use Rattle.acpi_tree.specs.Dot.{arrow}
use Rattle.acpi_tree.proofs.dot.push_arrows.Given as goal

abbrev pub invariant-places : goal.invariant-places
invariant-places l = l.text.items ++ flat_map (arrow l.nodes l.node) (drop l.place-index l.places) ≡ l.initial.text.items ++ flat_map (arrow l.nodes l.node) l.places
