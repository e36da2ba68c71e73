use Rattle.acpi_compile.proofs.stated.+declared.Given as goal

abbrev pub decreases-push_declared : goal.decreases-push_declared
decreases-push_declared l = l.depth
