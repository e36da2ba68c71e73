use Rattle.acpi_compile.proofs.called.+counted.Given as goal

abbrev pub decreases-push_counted : goal.decreases-push_counted
decreases-push_counted l = l.depth
