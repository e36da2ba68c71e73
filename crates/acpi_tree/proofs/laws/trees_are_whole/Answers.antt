use Rattle.acpi_tree.proofs.Whole.{trees_are_whole}
use Rattle.acpi_tree.proofs.laws.trees_are_whole.Goals as goal

pub returns : goal.returns
returns c = trees_are_whole
