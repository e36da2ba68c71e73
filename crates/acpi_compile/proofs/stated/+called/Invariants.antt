use Rattle.acpi_compile.proofs.stated.+called.Given as goal

abbrev pub decreases-add_called : goal.decreases-add_called
decreases-add_called l = l.depth
