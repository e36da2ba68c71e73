use Rattle.acpi_tree.proofs.tree.+spaces.Given as goal

abbrev pub decreases-push_spaces : goal.decreases-push_spaces
decreases-push_spaces l = l.depth
