use Rattle.acpi_asl.proofs.opening.+parameters.Given as goal

abbrev pub decreases-push_more_parameters : goal.decreases-push_more_parameters
decreases-push_more_parameters l = l.n
